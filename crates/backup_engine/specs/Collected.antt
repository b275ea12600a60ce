-- What a `collect` says, and which changes it makes (docs/MODEL.md, 'The promise').
use Rattle.std.specs.Prelude.{ℕ, List}
use Rattle.script_lines.specs.ReplyText.{reply_line}
use Rattle.script_lines.specs.ReplyValue as replies
use Rattle.store_model.specs.Steps.{StoreChange, FlushContainer, FreeContainer}

-- `collected freed F copied C`
abbrev pub collected_line : ℕ → ℕ → List ℕ
collected_line freed copied = reply_line (replies.Collected freed copied)

-- a change that a collection makes: a container of copies is written, or one is given back
abbrev pub IsOfCollection : StoreChange → Type 0
IsOfCollection (FlushContainer id kind segments) = Unit {0}
IsOfCollection (FreeContainer slot) = Unit {0}
IsOfCollection change = ⊥
