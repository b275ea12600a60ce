-- What the machine of roots refuses the machine of files refuses, where its content tells it.
use Rattle.store_machine.proofs.Prelude.{◌≡◌, inl, inr, ◌<◌, ◌≤◌, ℕ, [], ◌∷◌, Some, None, refl, sym, ◌∙◌, ap, subst, KindSegment, Put, Gone, LAST_ID, MOST_NAMES, Top, Refusal, free_slots, Asked, Forgets, Rests, SamePart, asked_of, IsAtRightPart, Refuses, RefusesClaim, RefusesCommit, RefusesDelete, RefusesGcStep, RefusesOn, RefusesRead, RefusesSeal, RefusesUnique, broken_by, with_name, without_name, Reading, part_in, put_at, AddsToRefused, IsStuck, StaysAt, of_files, of_roots}
use Rattle.std.proofs.Common.{List, slice_set}
use Rattle.container_meta.specs.Segments.{Contents}
use Rattle.refusals.specs.declared.refusal.Phase.TheVariants as phases
use Rattle.refusals.specs.declared.refusal.Refusal.TheVariants as refusals
use Rattle.store_model.specs.Trees.{root_of}
use Rattle.store_machine.specs.Asked as asked
use Rattle.store_machine.specs.Offers.{sealed_in, stores_with_some}
use Rattle.store_machine.proofs.AddedSame.{stores_same}
use Rattle.store_machine.proofs.Forgotten.{taken_same}
use Rattle.store_machine.proofs.Parts.{F, G, put_told, set_told, with_parts}
use Rattle.store_machine.proofs.Recalled.{Recalls, goes, stays, stop, id_back, keeps_back, kind_is, knows, may_commit, no_numbers, none_runs, numbers, on_id, on_store, reading, rooms, runs, slot_back, unkept_back, writing}
use Rattle.store_machine.proofs.SameNames.{gone_same, len_same, none_back, put_same}
use Rattle.store_machine.proofs.Walks.{ends_both}

module _ (m : F) (r : G) (same : Forgets m r) where
  -- what is left of a step, that is of this kind
  abbrev Left : (F → Type 0) → G → Type 0
  Left P t = Recalls m r same P t

  -- what each step of these adds
  abbrev Added : ℕ → Asked (List ℕ) → Refusal → G → Type 0
  Added a step refusal t = AddsToRefused a step refusal m t

  unclaimed : (a : ℕ) (seg : KindSegment) (refusal : Refusal) (t : G) → RefusesClaim of_roots a seg refusal r t → Added a (asked.Claim seg) refusal t
      → Left (λ n. RefusesClaim of_files a seg refusal m n) t
  unclaimed a seg (refusals.Unpinned key) t (is, others) adds =
      stays m r same (λ n. RefusesClaim of_files a seg (refusals.Unpinned key) m n) t others (unkept_back m r same a _ key is, refl)
  unclaimed a seg refusals.Memory t others adds = stays m r same (λ n. RefusesClaim of_files a seg refusals.Memory m n) t others refl
  unclaimed a seg refusals.DiskRead t (keeps, others) adds =
      stays m r same (λ n. RefusesClaim of_files a seg refusals.DiskRead m n) t others (keeps_back m r same a _ keeps, refl)
  unclaimed a seg (refusals.Clash key at) t (keeps, known, others) adds =
      stays m r same (λ n. RefusesClaim of_files a seg (refusals.Clash key at) m n) t others (keeps_back m r same a _ keeps, (λ told. adds), refl)
  unclaimed a seg (refusals.Corrupt slot offset count want got) t refuses adds = absurd adds
  unclaimed a seg refusal t refuses adds = absurd refuses

  unsealed : (a : ℕ) (offered : List Contents) (refusal : Refusal) (t : G) → RefusesSeal of_roots a offered refusal r t → Added a (asked.Seal offered) refusal t
      → Left (λ n. RefusesSeal of_files a offered refusal m n) t
  unsealed a offered refusals.Memory t others adds = stays m r same (λ n. RefusesSeal of_files a offered refusals.Memory m n) t others refl
  unsealed a offered (refusals.Unpinned key) t (is, others) adds =
      stays m r same (λ n. RefusesSeal of_files a offered (refusals.Unpinned key) m n) t others (unkept_back m r same a _ key is, refl)
  unsealed a offered (refusals.Full free) t (keeps, is, few, others) adds =
      stays m r same (λ n. RefusesSeal of_files a offered (refusals.Full free) m n) t others
      (keeps_back m r same a _ keeps, on_store m r same (λ s. free ≡ free_slots s.held) is, few, refl)
  unsealed a offered refusals.Numbers t (slot, none, others) adds =
      stays m r same (λ n. RefusesSeal of_files a offered refusals.Numbers m n) t others (slot_back m r same a offered slot, on_id m r same (λ id. LAST_ID ≤ id) none, refl)
  unsealed a offered refusals.DiskRead t (has, others) adds =
      stays m r same (λ n. RefusesSeal of_files a offered refusals.DiskRead m n) t others (id_back m r same a offered has, refl)
  unsealed a offered (refusals.Clash key at) t (has, known, others) adds =
      stays m r same (λ n. RefusesSeal of_files a offered (refusals.Clash key at) m n) t others (id_back m r same a offered has, (λ told. adds), refl)
  unsealed a offered (refusals.Corrupt at offset count want got) t refuses adds = absurd adds
  unsealed a offered refusals.DiskWrite t (has, known, others) adds =
      stop m r same (λ n. RefusesSeal of_files a offered refusals.DiskWrite m n) t None None (stores_with_some m.last_id (sealed_in offered m) m.store)
      (stores_with_some r.last_id (sealed_in offered r) r.store) others (stores_same m r same offered) (id_back m r same a offered has, (λ told. adds), refl)
  unsealed a offered refusal t refuses adds = absurd refuses

  uncommitted : (a : ℕ) (name file : List ℕ) (refusal : Refusal) (t : G) → RefusesCommit of_roots a name (root_of file) refusal r t
      → Added a (asked.Commit name file) refusal t → Left (λ n. RefusesCommit of_files a name file refusal m n) t
  uncommitted a name file refusals.Memory t others adds = stays m r same (λ n. RefusesCommit of_files a name file refusals.Memory m n) t others refl
  uncommitted a name file refusals.BadName t (bad, others) adds = stays m r same (λ n. RefusesCommit of_files a name file refusals.BadName m n) t others (bad, refl)
  uncommitted a name file refusals.TooMany t (named, none, many, others) adds =
      stays m r same (λ n. RefusesCommit of_files a name file refusals.TooMany m n) t others
      (named, none_back m.now r.now same.now name none, subst (λ (k : ℕ). MOST_NAMES ≤ k) (len_same m.now r.now same.now) many, refl)
  uncommitted a name file (refusals.Unpinned key) t (named, room, is, (pins, was, unkept), others) adds =
      stays m r same (λ n. RefusesCommit of_files a name file (refusals.Unpinned key) m n) t others
      (named, rooms m r same name room, is, (pins, writing m r same a pins was, unkept), refl)
  uncommitted a name file refusals.Numbers t (may, lacks, others) adds =
      stays m r same (λ n. RefusesCommit of_files a name file refusals.Numbers m n) t others (may_commit m r same a name file may, no_numbers m r same lacks, refl)
  uncommitted a name file refusals.DiskWrite t (may, has, right, whole, others) adds =
      stop m r same (λ n. RefusesCommit of_files a name file refusals.DiskWrite m n) t (Some (with_name of_files name file m.now))
      (Some (with_name of_roots name (root_of file) r.now))
      (broken_by of_files name (Put (root_of file)) m.store) (broken_by of_roots name (Put (root_of file)) r.store) others
      (put_same m.now r.now same.now name file adds.0, ap (broken_by of_files name (Put (root_of file))) same.store)
      (may_commit m r same a name file may, numbers m r same has, adds.0, adds.1, refl)
  uncommitted a name file refusal t refuses adds = absurd refuses

  undeleted : (name : List ℕ) (refusal : Refusal) (t : G) → RefusesDelete of_roots name refusal r t → Left (λ n. RefusesDelete of_files name refusal m n) t
  undeleted name refusals.Memory t others = stays m r same (λ n. RefusesDelete of_files name refusals.Memory m n) t others refl
  undeleted name refusals.BadName t (bad, others) = stays m r same (λ n. RefusesDelete of_files name refusals.BadName m n) t others (bad, refl)
  undeleted name refusals.NoFile t (named, none, others) =
      stays m r same (λ n. RefusesDelete of_files name refusals.NoFile m n) t others (named, none_back m.now r.now same.now name none, refl)
  undeleted name refusals.Numbers t (named, there, lacks, others) =
      stays m r same (λ n. RefusesDelete of_files name refusals.Numbers m n) t others (named, knows m r same name there, no_numbers m r same lacks, refl)
  undeleted name refusals.DiskWrite t (named, there, has, others) =
      stop m r same (λ n. RefusesDelete of_files name refusals.DiskWrite m n) t (Some (without_name of_files name m.now)) (Some (without_name of_roots name r.now))
      (broken_by of_files name Gone m.store) (broken_by of_roots name Gone r.store) others
      (gone_same m.now r.now same.now name, ap (broken_by of_files name Gone) same.store) (named, knows m r same name there, numbers m r same has, refl)
  undeleted name refusal t refuses = absurd refuses

  -- the rest of a file isn't nothing where a tree is to come, so that a read of it may be refused
  refused_rest : (file : List ℕ) (rest : List (List ℕ)) (tops : List Top) → Rests rest tops → IsStuck tops refusals.DiskRead → StaysAt rest refusals.DiskRead rest
  refused_rest file [] tops rests stuck = absurd (subst (λ (ts : List Top). IsStuck ts refusals.DiskRead) (ends_both tops rests) stuck)
  refused_rest file (bytes ∷ rest) tops rests stuck = refl

  unread_so : (a : ℕ) (t : G) → RefusesRead of_roots a refusals.DiskRead r t → SamePart (part_in m a) (part_in t a) → Left (λ n. RefusesRead of_files a refusals.DiskRead m n) t
  unread_so a t (root, tops, after, was, (walked, stuck), others) one =
      let reads = reading m r same a root tops was in
      let told : SamePart (Reading reads.file reads.rest) (part_in (put_at r a (Reading root after)) a) =
      subst (λ p. SamePart p (part_in (put_at r a (Reading root after)) a)) reads.reads (subst (λ (x : G). SamePart (part_in m a) (part_in x a)) others one) in
      let rests : SamePart (Reading reads.file reads.rest) (Reading root after) =
      subst (SamePart (Reading reads.file reads.rest)) (put_told r.parts a root tops (Reading root after) was) told in
      goes m r same (λ n. RefusesRead of_files a refusals.DiskRead m n) t (put_at r a (Reading root after)) (put_at m a (Reading reads.file reads.rest)) others
      (reads.file, reads.rest, reads.rest, reads.reads, refused_rest reads.file reads.rest after rests.1 stuck, refl)
      (with_parts m r same (slice_set m.parts a (Reading reads.file reads.rest)) (slice_set r.parts a (Reading root after))
      (set_told m.parts r.parts a (Reading reads.file reads.rest) (Reading root after) same.parts told))

  -- no other refusal comes of what a reader is stuck at
  not_stuck : (A : Type 0) (refusal : Refusal) (tops : List Top) → ((ts : List Top) (x : Top) → IsStuck (x ∷ ts) refusal → A) → IsStuck tops refusal → A
  not_stuck A refusal [] none stuck = absurd stuck
  not_stuck A refusal (x ∷ ts) none stuck = none ts x stuck

  unread : (a : ℕ) (refusal : Refusal) (t : G) → RefusesRead of_roots a refusal r t → Added a asked.ReadNext refusal t → Left (λ n. RefusesRead of_files a refusal m n) t
  unread a refusals.DiskRead t refuses adds = unread_so a t refuses adds
  unread a (refusals.Corrupt slot offset count want got) t refuses adds = absurd adds
  unread a (refusals.Missing key) t refuses adds = absurd adds
  unread a (refusals.Damaged at why) t refuses adds = absurd adds
  unread a refusal t (root, tops, after, was, (walked, stuck), others) adds = not_stuck _ refusal after (λ ts x no. absurd no) stuck

  uncollected : (refusal : Refusal) (t : G) → RefusesGcStep of_roots refusal r t → (a : ℕ) → Added a asked.GcStep refusal t → Left (λ n. RefusesGcStep of_files refusal m n) t
  uncollected refusals.NotCollecting t (none, others) a adds = stays m r same (λ n. RefusesGcStep of_files refusals.NotCollecting m n) t others (none_runs m r same none, refl)
  uncollected refusals.Memory t (some, others) a adds = stays m r same (λ n. RefusesGcStep of_files refusals.Memory m n) t others
      ((some.0, runs m r same some.0 some.1, some.2), refl)
  uncollected refusals.Numbers t (is, none, others) a adds =
      stays m r same (λ n. RefusesGcStep of_files refusals.Numbers m n) t others (runs m r same phases.Flush is, on_id m r same (λ id. LAST_ID ≤ id) none, refl)
  uncollected refusals.DiskRead t (inl is, others) a adds = stays m r same (λ n. RefusesGcStep of_files refusals.DiskRead m n) t others (inl (runs m r same phases.Mark is), refl)
  uncollected refusals.DiskRead t (inr (inl is), others) a adds =
      stays m r same (λ n. RefusesGcStep of_files refusals.DiskRead m n) t others (inr (inl (runs m r same phases.Filter is)), refl)
  uncollected refusals.DiskRead t (inr (inr (inl is)), others) a adds =
      stays m r same (λ n. RefusesGcStep of_files refusals.DiskRead m n) t others (inr (inr (inl (runs m r same phases.Copy is))), refl)
  uncollected refusals.DiskRead t (inr (inr (inr is)), others) a adds =
      stays m r same (λ n. RefusesGcStep of_files refusals.DiskRead m n) t others
      (inr (inr (inr (runs m r same phases.Flush is.0, on_id m r same (λ id. id < LAST_ID) is.1))), refl)
  uncollected refusals.DiskWrite t (stores, may, others) a adds =
      stop m r same (λ n. RefusesGcStep of_files refusals.DiskWrite m n) t None None stores stores others refl
      (stores, adds stores (ap (λ (x : G). x.state) others), refl)
  uncollected (refusals.Corrupt slot offset count want got) t refuses a adds = absurd adds
  uncollected (refusals.Missing key) t refuses a adds = absurd adds
  uncollected (refusals.Damaged at why) t refuses a adds = absurd adds
  uncollected refusal t refuses a adds = absurd refuses

  uncounted : (refusal : Refusal) (t : G) → RefusesUnique of_roots refusal r t → (a : ℕ) → Added a asked.Unique refusal t → Left (λ n. RefusesUnique of_files refusal m n) t
  uncounted refusals.Memory t others a adds = stays m r same (λ n. RefusesUnique of_files refusals.Memory m n) t others refl
  uncounted refusals.DiskRead t others a adds = stays m r same (λ n. RefusesUnique of_files refusals.DiskRead m n) t others refl
  uncounted (refusals.Corrupt slot offset count want got) t refuses a adds = absurd adds
  uncounted (refusals.Missing key) t refuses a adds = absurd adds
  uncounted (refusals.Damaged at why) t refuses a adds = absurd adds
  uncounted refusal t refuses a adds = absurd refuses

  refused_on : (a : ℕ) (step : Asked (List ℕ)) (refusal : Refusal) (t : G) → RefusesOn of_roots a (asked_of step) refusal r t → Added a step refusal t
      → Left (λ n. RefusesOn of_files a step refusal m n) t
  refused_on a (asked.Claim seg) refusal t refuses adds = unclaimed a seg refusal t refuses adds
  refused_on a (asked.Seal offered) refusal t refuses adds = unsealed a offered refusal t refuses adds
  refused_on a (asked.Commit name file) refusal t refuses adds = uncommitted a name file refusal t refuses adds
  refused_on a (asked.OpenRead name) refusals.Memory t others adds = stays m r same (λ n. RefusesOn of_files a (asked.OpenRead name) refusals.Memory m n) t others refl
  refused_on a (asked.OpenRead name) refusals.BadName t (bad, others) adds =
      stays m r same (λ n. RefusesOn of_files a (asked.OpenRead name) refusals.BadName m n) t others (bad, refl)
  refused_on a (asked.OpenRead name) refusals.NoFile t (named, none, others) adds =
      stays m r same (λ n. RefusesOn of_files a (asked.OpenRead name) refusals.NoFile m n) t others (named, none_back m.now r.now same.now name none, refl)
  refused_on a asked.ReadNext refusal t refuses adds = unread a refusal t refuses adds
  refused_on a (asked.Delete name) refusal t refuses adds = undeleted name refusal t refuses
  refused_on a asked.ListNames refusals.Memory t others adds = stays m r same (λ n. RefusesOn of_files a asked.ListNames refusals.Memory m n) t others refl
  refused_on a (asked.GcStart percent) refusals.Memory t (none, others) adds =
      stays m r same (λ n. RefusesOn of_files a (asked.GcStart percent) refusals.Memory m n) t others (none_runs m r same none, refl)
  refused_on a (asked.GcStart percent) (refusals.Missing key) t refuses adds = absurd adds
  refused_on a (asked.GcStart percent) (refusals.Damaged at why) t refuses adds = absurd adds
  refused_on a (asked.GcStart percent) (refusals.Collecting phase) t (is, others) adds =
      stays m r same (λ n. RefusesOn of_files a (asked.GcStart percent) (refusals.Collecting phase) m n) t others (runs m r same phase is, refl)
  refused_on a asked.GcStep refusal t refuses adds = uncollected refusal t refuses a adds
  refused_on a asked.Unique refusal t refuses adds = uncounted refusal t refuses a adds
  refused_on a step refusal t refuses adds = absurd refuses

  right_part : (a : ℕ) (step : Asked (List ℕ)) → IsAtRightPart of_roots a (asked_of step) r → IsAtRightPart of_files a step m
  right_part a step right taken is = kind_is m r same a ∙ right taken (taken_same m r same step ∙ is)

  pub refused_back : (a : ℕ) (step : Asked (List ℕ)) (refusal : Refusal) (t : G) → Refuses of_roots a (asked_of step) refusal r t → Added a step refusal t
      → Left (λ n. Refuses of_files a step refusal m n) t
  refused_back a step (refusals.WrongPart kind) t ((is, (taken, by, wrong)), others) adds =
      stays m r same (λ n. Refuses of_files a step (refusals.WrongPart kind) m n) t others
      ((is ∙ sym (kind_is m r same a), (taken, sym (taken_same m r same step) ∙ by, wrong)), refl)
  refused_back a step refusals.Memory t on adds = refused_on a step refusals.Memory t on adds
  refused_back a step refusal t (right, on) adds = let left = refused_on a step refusal t on adds in (left.0, (right_part a step right, left.1), left.2)
