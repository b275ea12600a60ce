-- The lines of an `ingest`: which come after its pushes, and what they give.
use Rattle.backup_engine.proofs.Prelude.{◌≡◌, ◌⊎◌, ◌+◌, inl, inr, ℕ, false, List, [], ◌∷◌, ◌++◌, length, Some, refl, sym, ◌∙◌, ap, Refusal, LineValue, pushed_bytes, ReplyValue, AllFollow, Follows, Replied, Digits, finish_lines, push_lines, pushed, refused, said}
use Rattle.std.proofs.Common.{append_assoc}
use Rattle.std.proofs.lemmas.List.{append-nil}
use Rattle.script_lines.specs.Grammar as lines
use Rattle.script_lines.specs.ReplyValue as replies
use Rattle.store_machine.specs.Ingests.{EndsCommitting}
use Rattle.store_machine.specs.Commands as machine
use Rattle.store_machine.specs.Commands.{IsPush, ends, given_by}
use Rattle.backup_engine.specs.Singles.{begun}

-- ---- the lines

-- the file's end
abbrev pub finished : List Digits → Replied
finished pushes = said (lines.Finish 0) (replies.Finished 0 (length (pushed pushes)))

-- what came after the pushes that were done: nothing; one that was refused; the file's end, refused; or that, and the name
pub data Tail : Type 0 where
  Nothing : Tail
  Push : (digits : List ℕ) (refusal : Refusal) → Tail
  Finish : (refusal : Refusal) → Tail
  Commit : (reply : ReplyValue) → Tail

-- the lines of a file's end, and one more
pub push_tail : (pushes : List Digits) (one : Replied) → finish_lines pushes ++ one ∷ [] ≡ push_lines 0 pushes ++ finished pushes ∷ one ∷ []
push_tail pushes one = append_assoc (push_lines 0 pushes) (finished pushes ∷ []) (one ∷ [])

module _ (given name : List ℕ) where
  abbrev pub tail_lines : List Digits → Tail → List Replied
  tail_lines pushes Nothing = []
  tail_lines pushes (Push digits refusal) = refused (lines.Push 0 digits) refusal ∷ []
  tail_lines pushes (Finish refusal) = refused (lines.Finish 0) refusal ∷ []
  tail_lines pushes (Commit reply) = finished pushes ∷ said (lines.Commit 0 name) reply ∷ []

  -- what was pushed comes first of the file, or is all of it
  abbrev pub IsTail : List Digits → Tail → Type 0
  IsTail pushes Nothing = (rest : List ℕ) × (given ≡ pushed pushes ++ rest)
  IsTail pushes (Push digits refusal) = (rest : List ℕ) × (given ≡ (pushed pushes ++ pushed_bytes digits) ++ rest)
  IsTail pushes (Finish refusal) = pushed pushes ≡ given
  IsTail pushes (Commit reply) = pushed pushes ≡ given

  abbrev pub put_lines : List Digits → Tail → List Replied
  put_lines pushes tail = begun ∷ push_lines 0 pushes ++ tail_lines pushes tail

  abbrev pub ArePut : List Replied → Tail → Type 0
  ArePut rs tail = (pushes : List Digits) × (IsTail pushes tail × (rs ≡ put_lines pushes tail))

  -- ---- one follows the other

  tail_follows : (all : List Digits) (tail : Tail) (prev : Replied) → ends prev.line prev.reply ≡ false
      → ((line : LineValue) → IsPush line ⊎ (line ≡ lines.Finish 0) → Follows (machine.Ingest name) prev.reply line)
      → AllFollow (machine.Ingest name) prev (tail_lines all tail)
  tail_follows all Nothing prev goes follows = tt
  tail_follows all (Push digits refusal) prev goes follows = (goes, follows (lines.Push 0 digits) (inl refl), tt)
  tail_follows all (Finish refusal) prev goes follows = (goes, follows (lines.Finish 0) (inr refl), tt)
  tail_follows all (Commit reply) prev goes follows = (goes, follows (lines.Finish 0) (inr refl), (refl, refl, tt))

  pushes_follow : (all : List Digits) (tail : Tail) (prev : Replied) (count : ℕ) (pushes : List Digits) → ends prev.line prev.reply ≡ false
      → ((line : LineValue) → IsPush line ⊎ (line ≡ lines.Finish 0) → Follows (machine.Ingest name) prev.reply line)
      → AllFollow (machine.Ingest name) prev (push_lines count pushes ++ tail_lines all tail)
  pushes_follow all tail prev count [] goes follows = tail_follows all tail prev goes follows
  pushes_follow all tail prev count (d ∷ more) goes follows = (
    goes,
    follows (lines.Push 0 d.digits) (inl refl),
    pushes_follow all tail (said (lines.Push 0 d.digits) (replies.Pushed 0 (count + length (pushed_bytes d.digits)))) (count + length (pushed_bytes d.digits)) more refl
        (λ line is. is),
  )

  pub put_follows : (pushes : List Digits) (tail : Tail) (files : ℕ) → AllFollow (machine.Ingest name) (said lines.Reopen (replies.Opened files)) (put_lines pushes tail)
  put_follows pushes tail files = (refl, refl, pushes_follow pushes tail begun 0 pushes refl (λ line is. is))

  -- ---- what was given

  tail_gives : (all : List Digits) (tail : Tail) (first : List ℕ) → given_by 0 first (tail_lines all tail) ≡ first
  tail_gives all Nothing first = refl
  tail_gives all (Push digits refusal) first = refl
  tail_gives all (Finish refusal) first = refl
  tail_gives all (Commit reply) first = refl

  pub pushes_give : (all : List Digits) (tail : Tail) (count : ℕ) (pushes : List Digits) (first : List ℕ)
      → given_by 0 first (push_lines count pushes ++ tail_lines all tail) ≡ first ++ pushed pushes
  pushes_give all tail count [] first = tail_gives all tail first ∙ sym (append-nil first)
  pushes_give all tail count (d ∷ more) first =
      pushes_give all tail (count + length (pushed_bytes d.digits)) more (first ++ pushed_bytes d.digits) ∙ append_assoc first (pushed_bytes d.digits) (pushed more)

  -- ---- the last line

  abbrev pub NoCommit : Replied → Type 0
  NoCommit one = one.line ≡ lines.Commit 0 name → ⊥

  abbrev pub IsCommit : Tail → Type 0
  IsCommit (Commit reply) = Unit {0}
  IsCommit tail = ⊥

  tail_last : (all : List Digits) (tail : Tail) (one : Replied) → NoCommit one → (IsCommit tail → ⊥) → EndsCommitting name (one ∷ tail_lines all tail) → ⊥
  tail_last all Nothing one not none (last, is, commits) =
      not (let same : one ≡ last = (let both : Some one ≡ Some last = is in cc) in ap (λ (x : Replied). x.line) same ∙ commits)
  tail_last all (Push digits refusal) one not none (last, is, commits) =
      let same : refused (lines.Push 0 digits) refusal ≡ last = (let both : Some (refused (lines.Push 0 digits) refusal) ≡ Some last = is in cc) in
      absurd (let no : lines.Push 0 digits ≡ lines.Commit 0 name = ap (λ (x : Replied). x.line) same ∙ commits in cc)
  tail_last all (Finish refusal) one not none (last, is, commits) =
      let same : refused (lines.Finish 0) refusal ≡ last = (let both : Some (refused (lines.Finish 0) refusal) ≡ Some last = is in cc) in
      absurd (let no : lines.Finish 0 ≡ lines.Commit 0 name = ap (λ (x : Replied). x.line) same ∙ commits in cc)
  tail_last all (Commit reply) one not none end = none tt

  pub pushes_last : (all : List Digits) (tail : Tail) (one : Replied) (count : ℕ) (pushes : List Digits) → NoCommit one → (IsCommit tail → ⊥)
      → EndsCommitting name (one ∷ push_lines count pushes ++ tail_lines all tail) → ⊥
  pushes_last all tail one count [] not none end = tail_last all tail one not none end
  pushes_last all tail one count (d ∷ more) not none end =
      pushes_last all tail (said (lines.Push 0 d.digits) (replies.Pushed 0 (count + length (pushed_bytes d.digits)))) (count + length (pushed_bytes d.digits)) more (λ is. cc)
      none end

  -- with the name, its line is the last one
  pub commit_last : (all : List Digits) (reply : ReplyValue) (one : Replied) (count : ℕ) (pushes : List Digits)
      → machine.last_of (one ∷ push_lines count pushes ++ tail_lines all (Commit reply)) ≡ Some (said (lines.Commit 0 name) reply)
  commit_last all reply one count [] = refl
  commit_last all reply one count (d ∷ more) =
      commit_last all reply (said (lines.Push 0 d.digits) (replies.Pushed 0 (count + length (pushed_bytes d.digits)))) (count + length (pushed_bytes d.digits)) more

  -- which one it is
  abbrev pub tail_end : Tail → Replied → Replied
  tail_end Nothing prev = prev
  tail_end (Push digits refusal) prev = refused (lines.Push 0 digits) refusal
  tail_end (Finish refusal) prev = refused (lines.Finish 0) refusal
  tail_end (Commit reply) prev = said (lines.Commit 0 name) reply

  abbrev pub last_push : Replied → ℕ → List Digits → Replied
  last_push prev count [] = prev
  last_push prev count (d ∷ more) =
      last_push (said (lines.Push 0 d.digits) (replies.Pushed 0 (count + length (pushed_bytes d.digits)))) (count + length (pushed_bytes d.digits)) more

  tail_is_last : (all : List Digits) (tail : Tail) (prev : Replied) → machine.last_of (prev ∷ tail_lines all tail) ≡ Some (tail_end tail prev)
  tail_is_last all Nothing prev = refl
  tail_is_last all (Push digits refusal) prev = refl
  tail_is_last all (Finish refusal) prev = refl
  tail_is_last all (Commit reply) prev = refl

  pub ends_with : (all : List Digits) (tail : Tail) (prev : Replied) (count : ℕ) (pushes : List Digits)
      → machine.last_of (prev ∷ push_lines count pushes ++ tail_lines all tail) ≡ Some (tail_end tail (last_push prev count pushes))
  ends_with all tail prev count [] = tail_is_last all tail prev
  ends_with all tail prev count (d ∷ more) =
      ends_with all tail (said (lines.Push 0 d.digits) (replies.Pushed 0 (count + length (pushed_bytes d.digits)))) (count + length (pushed_bytes d.digits)) more
