-- What a reader gives on any disk is what the tree of the opened root names.
use Rattle.store_core.proofs.Prelude.{AllByRecursion, CoreStep, ◌≡◌, ◌<◌, ℕ, Bool, true, false, List, [], ◌∷◌, ◌++◌, length, take, Option, Some, None, Result, Ok, Err, refl, sym, ◌∙◌, ap, subst, eqb-true, eqb-false, Root, Top, Part, Answer, StepValue, apart, Refusal, NameMap, top_of, reading, Stop, ReadRow, Row, Steps, StepsOr, CoreRun, opens, CoreState, Event}
use Rattle.std.proofs.Common.{◌==◌, sum_by}
use Rattle.merkle_file.specs.Walk.{start_of}
use Rattle.actor_parts.specs.declared.step.Answer.TheVariants as answers
use Rattle.actor_parts.specs.Parts.{part_of, with_part}
use Rattle.actor_parts.specs.StepValue as asked
use Rattle.refusals.specs.declared.refusal.Refusal.TheVariants as refusals
use Rattle.read_steps.specs.Opening.{HasRoot}
use Rattle.read_steps.specs.Walking.{WasRead, Walked, GivesAll, AnyBytes}
use Rattle.read_steps.proofs.Walks.{walked_none, all_walked, all_given, reads_are_whole}
use Rattle.store_core.specs.Runs.{given_by, given_to}
use Rattle.store_core.proofs.OwnParts.{same_reader}
use Rattle.store_core.proofs.Stepping.{ChangesOne, length_on, other_part, row_one}

-- the actor makes no other step than to read on
abbrev pub IsReadNext : StepValue → Type 0
IsReadNext asked.ReadNext = Unit {0}
IsReadNext step = ⊥

abbrev pub ReadsAlone : ℕ → List Event → Type 0
ReadsAlone actor events = AllByRecursion (λ e. e.actor ≡ actor → IsReadNext e.step) events

-- What an actor was given of a root is what its tree names, one after the other, from the first on.
pub record GivesAsNamed (root : Root) (segments : List (List ℕ)) (actor : ℕ) (c : CoreState) : Type 0 where
  pub rest : List Top
  pub part_is : part_of c.parts actor ≡ reading root rest
  pub gives : GivesAll (start_of (top_of root)) segments rest

-- So it is of the root that the name had when it was opened, of the length that was answered; and where nothing is to come
-- what was given has that length.
pub record GivesByTree (names : NameMap) (name : List ℕ) (actor count : ℕ) (events : List Event) (new : CoreState) : Type 0 where
  pub root : Root
  pub has_root : HasRoot names name root
  pub count_is : count ≡ root.length
  pub given : GivesAsNamed root (given_to actor events) actor new
  pub whole : given.rest ≡ [] → sum_by length (given_to actor events) ≡ count

-- the actor takes a file of this root, of which it was given these segments, the first of them first
pub record Comes (actor : ℕ) (root : Root) (segments : List (List ℕ)) (c : CoreState) : Type 0 where
  pub below : actor < length c.parts
  pub given : GivesAsNamed root segments actor c

append_none : {A : Type 0} (xs : List A) → xs ++ [] ≡ xs
append_none [] = refl
append_none (x ∷ xs) = ap (λ (ys : List _). x ∷ ys) (append_none xs)

append_on : {A : Type 0} (xs ys zs : List A) → (xs ++ ys) ++ zs ≡ xs ++ (ys ++ zs)
append_on [] ys zs = refl
append_on (x ∷ xs) ys zs = ap (λ (us : List _). x ∷ us) (append_on xs ys zs)

module _ (actor : ℕ) (root : Root) (segments : List (List ℕ)) (old new : CoreState) (comes : Comes actor root segments old) where
  abbrev start : List Top
  start = start_of (top_of root)

  -- what one step adds to what was given
  abbrev After : Bool → Result Answer Refusal → List ℕ → Type 0
  After own answer buf = Comes actor root (segments ++ given_by own answer buf []) new

  same_reading : (other : Root) (was : List Top) → part_of old.parts actor ≡ reading other was → (other ≡ root) × (was ≡ comes.given.rest)
  same_reading other was is = same_reader other root was comes.given.rest (sym is ∙ comes.given.part_is)

  -- nothing was given, and the part goes on by some nodes
  still : (own : ℕ) → ChangesOne own old.parts new.parts → part_of new.parts actor ≡ part_of old.parts actor → Comes actor root (segments ++ []) new
  still own one same = record {
    below = subst (λ (n : ℕ). actor < n) (sym (length_on own old.parts new.parts one)) comes.below;
    given = subst (λ (given : List (List ℕ)). GivesAsNamed root given actor new) (sym (append_none segments))
        (record { rest = comes.given.rest; part_is = same ∙ comes.given.part_is; gives = comes.given.gives });
  }

  moves : (other : Root) (was rest : List Top) (given : List (List ℕ)) → part_of old.parts actor ≡ reading other was → new.parts ≡ with_part old.parts actor (reading other rest)
      → (GivesAll start segments was → GivesAll start (segments ++ given) rest) → Comes actor root (segments ++ given) new
  moves other was rest given is parts_are goes =
      let same = same_reading other was is in
      record {
        below = subst (λ (n : ℕ). actor < n) (sym (length_on actor old.parts new.parts (record { part = _; parts_are = parts_are }))) comes.below;
        given = record {
          rest = rest;
          part_is = ap (λ (parts : List Part). part_of parts actor) parts_are ∙ apart.same old.parts actor (reading other rest) comes.below
              ∙ ap (λ (r : Root). reading r rest) same.0;
          gives = goes (subst (λ (tops : List Top). GivesAll start segments tops) (sym same.1) comes.given.gives);
        };
      }

  none_more : (rest : List Top) → GivesAll start segments rest → GivesAll start (segments ++ []) rest
  none_more rest gives = subst (λ (given : List (List ℕ)). GivesAll start given rest) (sym (append_none segments)) gives

  own_after : (answer : Result Answer Refusal) (buf : List ℕ) → ReadRow actor answer buf old new → After true answer buf
  own_after (Ok (answers.Bytes count)) buf row =
      moves row.next.goes_on.root row.next.was row.next.rest (take count buf ∷ []) row.next.goes_on.part_is row.next.goes_on.parts_are
      (λ gives. all_given (WasRead old.known old.disk new.disk) start row.next.was row.next.rest segments count (take count buf) gives row.next.given)
  own_after (Ok answers.End) buf row =
      moves row.next.goes_on.root row.next.was row.next.rest [] row.next.goes_on.part_is row.next.goes_on.parts_are
      (λ gives. none_more row.next.rest (subst (λ (tops : List Top). GivesAll start segments tops) (row.next.given.0 ∙ sym row.next.given.1) gives))
  own_after (Err (refusals.WrongPart kind)) buf row = still actor (record { part = _; parts_are = row.cause.same ∙ sym (apart.unchanged old.parts actor) })
      (ap (λ (parts : List Part). part_of parts actor) row.cause.same)
  own_after (Err refusal) buf row =
      moves row.cause.goes_on.root row.cause.was row.cause.rest [] row.cause.goes_on.part_is row.cause.goes_on.parts_are
      (λ gives. none_more row.cause.rest (all_walked (WasRead old.known old.disk new.disk) start row.cause.was row.cause.rest segments gives row.cause.refused.walked))
  own_after answer buf row = absurd row

  own_step : (step : StepValue) (answer : Result Answer Refusal) (buf : List ℕ) → IsReadNext step → Row step actor answer buf old new → After true answer buf
  own_step asked.ReadNext answer buf is row = own_after answer buf row
  own_step step answer buf is row = absurd is

  by_actor : (own : Bool) (e : Event) → (e.actor == actor) ≡ own → (e.actor ≡ actor → IsReadNext e.step) → Steps e old new → After own e.answer e.buf
  by_actor true e is alone steps =
      let same = eqb-true e.actor actor is in
      own_step e.step e.answer e.buf (alone same) (subst (λ (a : ℕ). Row e.step a e.answer e.buf old new) same steps.made.row)
  by_actor false e is alone steps =
      let one = row_one e.actor e.buf old new e.step e.answer steps.made.row in
      still e.actor one (other_part actor e.actor old.parts new.parts one (λ same. eqb-false e.actor actor is (sym same)))

  none_given : (own : Bool) (answer : Result Answer Refusal) (buf : List ℕ) (at : ℕ) → answer ≡ Err (refusals.Stopped at) → given_by own answer buf [] ≡ []
  none_given true answer buf at is = ap (λ (a : Result Answer Refusal). given_by true a buf []) is
  none_given false answer buf at is = refl

  by_stop : (stop : Option Stop) (e : Event) → (e.actor ≡ actor → IsReadNext e.step) → StepsOr stop e old new → After (e.actor == actor) e.answer e.buf
  by_stop None e alone steps = by_actor (e.actor == actor) e refl alone steps
  by_stop (Some stop) e alone steps =
      subst (λ (given : List (List ℕ)). Comes actor root (segments ++ given) new) (sym (none_given (e.actor == actor) e.answer e.buf stop.at steps.answer_is))
      (still e.actor (record { part = _; parts_are = steps.same.parts_are ∙ sym (apart.unchanged old.parts e.actor) })
      (ap (λ (parts : List Part). part_of parts actor) steps.same.parts_are))

  pub step_after : (e : Event) → (e.actor ≡ actor → IsReadNext e.step) → StepsOr old.stop e old new → After (e.actor == actor) e.answer e.buf
  step_after e alone steps = by_stop old.stop e alone steps

-- what a step gives comes before what others do
given_before : (own : Bool) (answer : Result Answer Refusal) (buf : List ℕ) (others : List (List ℕ)) → given_by own answer buf others ≡ given_by own answer buf [] ++ others
given_before true (Ok (answers.Bytes count)) buf others = refl
given_before true (Ok answer) buf others = refl
given_before true (Err refusal) buf others = refl
given_before false answer buf others = refl

module _ (C : Type 0) (state : C → CoreState) (actor : ℕ) (root : Root) where
  comes_on : (events : List Event) (segments : List (List ℕ)) (old new : C) → Comes actor root segments (state old) → CoreRun C state events old new → ReadsAlone actor events
      → Comes actor root (segments ++ given_to actor events) (state new)
  comes_on [] segments old new comes run alone =
      subst (λ (given : List (List ℕ)). Comes actor root given (state new)) (sym (append_none segments)) (subst (λ (c : C). Comes actor root segments (state c)) (sym run) comes)
  comes_on (e ∷ es) segments old new comes run alone =
      let one : List (List ℕ) = given_by (e.actor == actor) e.answer e.buf [] in
      let mid = step_after actor root segments (state old) (state run.0) comes e alone.0 run.1.0 in
      subst (λ (given : List (List ℕ)). Comes actor root given (state new))
      (append_on segments one (given_to actor es) ∙ ap (λ (given : List (List ℕ)). segments ++ given) (sym (given_before (e.actor == actor) e.answer e.buf (given_to actor es))))
      (comes_on es (segments ++ one) run.0 new mid run.1.1 alone.1)

  whole_of : (segments : List (List ℕ)) (c : CoreState) (given : GivesAsNamed root segments actor c) → given.rest ≡ [] → sum_by length segments ≡ root.length
  whole_of segments c given ended = reads_are_whole (top_of root) segments (subst (λ (tops : List Top). GivesAll (start_of (top_of root)) segments tops) ended given.gives)

-- ---- from the opening on

module _ (old new : CoreState) (actor : ℕ) (name : List ℕ) (count : ℕ) (buf : List ℕ) (below : actor < length old.parts) where
  pub record Began : Type 0 where
    pub root : Root
    pub has_root : HasRoot old.tables.names name root
    pub count_is : count ≡ root.length
    pub comes : Comes actor root [] new

  opened : Steps (opens actor name count buf) old new → Began
  opened steps =
      let is = steps.made.row.opens in
      let one = row_one actor buf old new (asked.OpenRead name) (Ok (answers.Opened count)) steps.made.row in
      record {
        root = is.root;
        has_root = is.begins.has_root;
        count_is = is.count_is;
        comes = record {
          below = subst (λ (n : ℕ). actor < n) (sym (length_on actor old.parts new.parts one)) below;
          given = record {
            rest = is.ahead;
            part_is = ap (λ (parts : List Part). part_of parts actor) is.parts_are ∙ apart.same old.parts actor (reading is.root is.ahead) below;
            gives = subst (λ (tops : List Top). Walked AnyBytes (start_of (top_of is.root)) tops) (sym is.begins.all) (walked_none AnyBytes (start_of (top_of is.root)));
          };
        };
      }

  opened_by : (stop : Option Stop) → old.stop ≡ stop → old.stop ≡ None → StepsOr stop (opens actor name count buf) old new → Began
  opened_by None is runs steps = opened steps
  opened_by (Some stop) is runs steps = absurd (let both = sym runs ∙ is in cc)

module _ (C : Type 0) (state : C → CoreState) where
  pub reads_are_checked : (actor : ℕ) (name : List ℕ) (count : ℕ) (buf : List ℕ) (events : List Event) (old mid new : C) → actor < length (state old).parts
      → (state old).stop ≡ None → CoreStep (state old) (opens actor name count buf) (state mid) → CoreRun C state events mid new → ReadsAlone actor events
      → GivesByTree (state old).tables.names name actor count events (state new)
  reads_are_checked actor name count buf events old mid new below runs step run alone =
      let began = opened_by (state old) (state mid) actor name count buf below (state old).stop refl runs step in
      let comes = comes_on C state actor began.root events [] mid new began.comes run alone in
      record {
        root = began.root;
        has_root = began.has_root;
        count_is = began.count_is;
        given = comes.given;
        whole = λ ended. whole_of C state actor began.root (given_to actor events) (state new) comes.given ended ∙ sym began.count_is;
      }
