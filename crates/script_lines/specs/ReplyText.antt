-- The replies to the lines of a script, each line with the LF that ends it (docs/FORMAT.md, 'Scripts').
use Rattle.std.specs.Prelude.{ℕ, List, ◌++◌, codes, decimal}
use Rattle.hex.specs.Hex.{encode_lower}
use Rattle.reply_text.specs.Text.{refused_line, listing_text, phase_text, unique_line}
use Rattle.script_lines.specs.declared.reply.Turned.{Turned}
use Rattle.script_lines.specs.declared.reply.Turned.TheVariants.{Held, Absent, Sealed, Idle}
use Rattle.script_lines.specs.declared.reply.Holdings.{Holdings}
use Rattle.script_lines.specs.ReplyValue.{ReplyValue, Begun, Pushed, Finished, Turn, Committed, Aborted, Reading, Bytes, End, Dropped, Deleted, Listed, Collecting, Step, Collected, Stat, Unique, Opened, Refused}

-- what a turn did
unfoldable pub turned_line : ℕ → Turned → List ℕ
turned_line actor Held = codes "turn " ++ decimal actor ++ codes " held\n"
turned_line actor Absent = codes "turn " ++ decimal actor ++ codes " absent\n"
turned_line actor (Sealed id) = codes "turn " ++ decimal actor ++ codes " sealed " ++ decimal id ++ codes "\n"
turned_line actor Idle = codes "turn " ++ decimal actor ++ codes " idle\n"

-- what a store holds
unfoldable pub stat_line : Holdings → List ℕ
stat_line holdings =
    codes "stat files " ++ decimal holdings.files ++ codes " segments " ++ decimal holdings.segments ++ codes " bytes "
    ++ decimal holdings.bytes ++ codes " used " ++ decimal holdings.used ++ codes " free " ++ decimal holdings.free ++ codes "\n"

-- each reply; the bytes of `bytes` are one at least
unfoldable pub reply_line : ReplyValue → List ℕ
reply_line (Begun actor) = codes "begun " ++ decimal actor ++ codes "\n"
reply_line (Pushed actor bytes) = codes "pushed " ++ decimal actor ++ codes " " ++ decimal bytes ++ codes "\n"
reply_line (Finished actor bytes) = codes "finished " ++ decimal actor ++ codes " " ++ decimal bytes ++ codes "\n"
reply_line (Turn actor turned) = turned_line actor turned
reply_line (Committed actor sequence) = codes "committed " ++ decimal actor ++ codes " " ++ decimal sequence ++ codes "\n"
reply_line (Aborted actor) = codes "aborted " ++ decimal actor ++ codes "\n"
reply_line (Reading actor length) = codes "reading " ++ decimal actor ++ codes " " ++ decimal length ++ codes "\n"
reply_line (Bytes actor bytes) = codes "bytes " ++ decimal actor ++ codes " " ++ encode_lower bytes ++ codes "\n"
reply_line (End actor) = codes "end " ++ decimal actor ++ codes "\n"
reply_line (Dropped actor) = codes "dropped " ++ decimal actor ++ codes "\n"
reply_line (Deleted sequence) = codes "deleted " ++ decimal sequence ++ codes "\n"
reply_line (Listed files) = listing_text files
reply_line (Collecting snapshot) = codes "collecting " ++ decimal snapshot ++ codes "\n"
reply_line (Step phase) = codes "step " ++ phase_text phase ++ codes "\n"
reply_line (Collected freed copied) = codes "collected freed " ++ decimal freed ++ codes " copied " ++ decimal copied ++ codes "\n"
reply_line (Stat holdings) = stat_line holdings
reply_line (Unique segments bytes) = unique_line segments bytes
reply_line (Opened files) = codes "opened " ++ decimal files ++ codes "\n"
reply_line (Refused refusal) = refused_line refusal
