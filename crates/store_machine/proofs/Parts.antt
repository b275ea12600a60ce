-- Parts and collections of a machine of files and of one of roots that has forgotten the rest.
use Rattle.store_machine.proofs.Prelude.{ACTORS, Collection, Found, Idle, IsCollecting, Machine, None, Option, Part, Phase, PinMap, Reading, Rests, Root, RunState, Running, SamePart, Some, Store, Top, Writing, [], all_idle, ap, false, forget_collection, keeping, keys_kept, kind_of, last_id, map, one_more, option_map, put_at, refl, replicate, slice_index_or, slice_set, subst, suc, sym, values_read, zero, ℕ, ◌++◌, ◌∙◌, ◌∷◌, ◌≡◌}
use Rattle.std.proofs.Common.{List}
use Rattle.std.specs.FinMap as finite
use Rattle.store_model.specs.Trees.{root_of}
use Rattle.store_machine.specs.Forgetting.{Forgets, SameNow, SameParts, SameState}
use Rattle.store_machine.specs.Collecting.{Went, last_by, marking, marks_of, swept_by}

abbrev pub F : Type 0
F = Machine (List ℕ) (List (List ℕ))

abbrev pub G : Type 0
G = Machine Root (List Top)

abbrev pub FilePart : Type 0
FilePart = Part (List ℕ) (List (List ℕ))

abbrev pub RootPart : Type 0
RootPart = Part Root (List Top)

-- ---- parts

pub part_at : (ps : List FilePart) (qs : List RootPart) (i : ℕ) → SameParts ps qs → SamePart (slice_index_or ps i Idle) (slice_index_or qs i Idle)
part_at [] [] i same = tt
part_at (p ∷ ps) (q ∷ qs) zero same = same.0
part_at (p ∷ ps) (q ∷ qs) (suc i) same = part_at ps qs i same.1
part_at other it i same = absurd same

pub set_at : (ps : List FilePart) (qs : List RootPart) (i : ℕ) (p : FilePart) (q : RootPart) → SameParts ps qs → SamePart p q → SameParts (slice_set ps i p) (slice_set qs i q)
set_at [] [] i p q same one = tt
set_at (x ∷ ps) (y ∷ qs) zero p q same one = (one, same.1)
set_at (x ∷ ps) (y ∷ qs) (suc i) p q same one = (same.0, set_at ps qs i p q same.1 one)
set_at other it i p q same one = absurd same

pub all_same : (n : ℕ) → SameParts (replicate n Idle) (replicate n Idle)
all_same zero = tt
all_same (suc n) = (tt, all_same n)

pub kind_same : (p : FilePart) (q : RootPart) → SamePart p q → kind_of q ≡ kind_of p
kind_same Idle Idle same = refl
kind_same (Writing pins) (Writing others) same = refl
kind_same (Reading file rest) (Reading root tops) same = refl
kind_same other it same = absurd same

pub idle_same : (p : FilePart) (q : RootPart) → SamePart p q → p ≡ Idle → q ≡ Idle
idle_same Idle Idle same is = refl
idle_same (Writing pins) q same is = absurd (let wrong : Writing pins ≡ Idle = is in cc)
idle_same (Reading file rest) q same is = absurd (let wrong : Reading file rest ≡ Idle = is in cc)
idle_same other it same is = absurd same

pub writing_same : (p : FilePart) (q : RootPart) (pins : PinMap) → SamePart p q → p ≡ Writing pins → q ≡ Writing pins
writing_same Idle q pins same is = absurd (let wrong : Idle ≡ Writing pins = is in cc)
writing_same (Writing own) Idle pins same is = absurd same
writing_same (Writing own) (Writing others) pins same is =
    let own_is : own ≡ pins = cc in ap Writing (same ∙ own_is)
writing_same (Writing own) (Reading root tops) pins same is = absurd same
writing_same (Reading file rest) q pins same is = absurd (let wrong : Reading file rest ≡ Writing pins = is in cc)

pub reading_same : (p : FilePart) (q : RootPart) (file : List ℕ) (rest : List (List ℕ)) → SamePart p q → p ≡ Reading file rest
    → (tops : List Top) × (q ≡ Reading (root_of file) tops) × Rests rest tops
reading_same Idle q file rest same is = absurd (let wrong : Idle ≡ Reading file rest = is in cc)
reading_same (Writing own) q file rest same is = absurd (let wrong : Writing own ≡ Reading file rest = is in cc)
reading_same (Reading own left) Idle file rest same is = absurd same
reading_same (Reading own left) (Writing pins) file rest same is = absurd same
reading_same (Reading own left) (Reading root tops) file rest same is =
    let own_is : own ≡ file = cc in
    let left_is : left ≡ rest = cc in
    (tops, ap (λ (x : Root). Reading x tops) (same.0 ∙ ap root_of own_is), subst (λ (l : List (List ℕ)). Rests l tops) left_is same.1)

-- ---- parts, from those of roots

pub idle_back : (p : FilePart) (q : RootPart) → SamePart p q → q ≡ Idle → p ≡ Idle
idle_back Idle q same is = refl
idle_back (Writing pins) (Writing others) same is = absurd (let wrong : Writing others ≡ Idle = is in cc)
idle_back (Reading file rest) (Reading root tops) same is = absurd (let wrong : Reading root tops ≡ Idle = is in cc)
idle_back other it same is = absurd same

pub writing_back : (p : FilePart) (q : RootPart) (pins : PinMap) → SamePart p q → q ≡ Writing pins → p ≡ Writing pins
writing_back p Idle pins same is = absurd (let wrong : Idle ≡ Writing pins = is in cc)
writing_back Idle (Writing others) pins same is = absurd same
writing_back (Writing own) (Writing others) pins same is =
    let others_is : others ≡ pins = cc in ap Writing (sym same ∙ others_is)
writing_back (Reading file rest) (Writing others) pins same is = absurd same
writing_back p (Reading root tops) pins same is = absurd (let wrong : Reading root tops ≡ Writing pins = is in cc)

-- what a reader of roots reads is the root of a file that one of files reads
pub record ReadsFile (p : FilePart) (root : Root) (tops : List Top) : Type 0 where
  pub file : List ℕ
  pub rest : List (List ℕ)
  pub reads : p ≡ Reading file rest
  pub root_is : root ≡ root_of file
  pub rests : Rests rest tops

pub reading_back : (p : FilePart) (q : RootPart) (root : Root) (tops : List Top) → SamePart p q → q ≡ Reading root tops → ReadsFile p root tops
reading_back p Idle root tops same is = absurd (let wrong : Idle ≡ Reading root tops = is in cc)
reading_back p (Writing pins) root tops same is = absurd (let wrong : Writing pins ≡ Reading root tops = is in cc)
reading_back Idle (Reading own left) root tops same is = absurd same
reading_back (Writing pins) (Reading own left) root tops same is = absurd same
reading_back (Reading file rest) (Reading own left) root tops same is =
    let own_is : own ≡ root = cc in
    let left_is : left ≡ tops = cc in
    record { file = file; rest = rest; reads = refl; root_is = sym own_is ∙ same.0; rests = subst (Rests rest) left_is same.1 }

-- an actor is at this, as is told of it once it is put there
pub set_told : (ps : List FilePart) (qs : List RootPart) (i : ℕ) (p : FilePart) (q : RootPart) → SameParts ps qs → SamePart p (slice_index_or (slice_set qs i q) i Idle)
    → SameParts (slice_set ps i p) (slice_set qs i q)
set_told [] [] i p q same one = tt
set_told (x ∷ ps) (y ∷ qs) zero p q same one = (one, same.1)
set_told (x ∷ ps) (y ∷ qs) (suc i) p q same one = (same.0, set_told ps qs i p q same.1 one)
set_told other it i p q same one = absurd same

-- where one is at something, it is at what it is put to
pub put_told : {V R : Type 0} (qs : List (Part V R)) (i : ℕ) (value : V) (rest : R) (q : Part V R) → slice_index_or qs i Idle ≡ Reading value rest
    → slice_index_or (slice_set qs i q) i Idle ≡ q
put_told [] i value rest q is = absurd (let wrong : Idle ≡ Reading value rest = is in cc)
put_told (y ∷ qs) zero value rest q is = refl
put_told (y ∷ qs) (suc i) value rest q is = put_told qs i value rest q is

-- ---- the collection

pub kept_map : (keys : List (List ℕ)) (o : Option (Collection (List ℕ))) → keeping keys (option_map forget_collection o) ≡ option_map forget_collection (keeping keys o)
kept_map keys None = refl
kept_map keys (Some c) = refl

pub keys_same : (ps : List FilePart) (qs : List RootPart) → SameParts ps qs → keys_kept qs ≡ keys_kept ps
keys_same [] [] same = refl
keys_same [] (q ∷ qs) same = absurd same
keys_same (p ∷ ps) [] same = absurd same
keys_same (Idle ∷ ps) (Idle ∷ qs) same = keys_same ps qs same.1
keys_same (Idle ∷ ps) (Writing pins ∷ qs) same = absurd same.0
keys_same (Idle ∷ ps) (Reading root tops ∷ qs) same = absurd same.0
keys_same (Writing pins ∷ ps) (Idle ∷ qs) same = absurd same.0
keys_same (Writing pins ∷ ps) (Writing others ∷ qs) same =
    ap (λ (p : PinMap). finite.keys p ++ keys_kept qs) same.0 ∙ ap (λ (ks : List (List ℕ)). finite.keys pins ++ ks) (keys_same ps qs same.1)
keys_same (Writing pins ∷ ps) (Reading root tops ∷ qs) same = absurd same.0
keys_same (Reading file rest ∷ ps) (Idle ∷ qs) same = absurd same.0
keys_same (Reading file rest ∷ ps) (Writing pins ∷ qs) same = absurd same.0
keys_same (Reading file rest ∷ ps) (Reading root tops ∷ qs) same = keys_same ps qs same.1

pub read_same : (ps : List FilePart) (qs : List RootPart) → SameParts ps qs → values_read qs ≡ map root_of (values_read ps)
read_same [] [] same = refl
read_same [] (q ∷ qs) same = absurd same
read_same (p ∷ ps) [] same = absurd same
read_same (Idle ∷ ps) (Idle ∷ qs) same = read_same ps qs same.1
read_same (Idle ∷ ps) (Writing pins ∷ qs) same = absurd same.0
read_same (Idle ∷ ps) (Reading root tops ∷ qs) same = absurd same.0
read_same (Writing pins ∷ ps) (Idle ∷ qs) same = absurd same.0
read_same (Writing pins ∷ ps) (Writing others ∷ qs) same = read_same ps qs same.1
read_same (Writing pins ∷ ps) (Reading root tops ∷ qs) same = absurd same.0
read_same (Reading file rest ∷ ps) (Idle ∷ qs) same = absurd same.0
read_same (Reading file rest ∷ ps) (Writing pins ∷ qs) same = absurd same.0
read_same (Reading file rest ∷ ps) (Reading root tops ∷ qs) same =
    ap (λ (x : Root). x ∷ values_read qs) same.0.0 ∙ ap (λ (xs : List Root). root_of file ∷ xs) (read_same ps qs same.1)

pub map_two : (xs ys : List (List ℕ)) → map root_of (xs ++ ys) ≡ map root_of xs ++ map root_of ys
map_two [] ys = refl
map_two (x ∷ xs) ys = ap (λ (rs : List Root). root_of x ∷ rs) (map_two xs ys)

pub collecting : (phase : Phase) (store : Store) (o : Option (Collection (List ℕ))) → IsCollecting phase store o → IsCollecting phase store (option_map forget_collection o)
collecting phase store None is = absurd is
collecting phase store (Some c) is = is

pub collecting_back : (phase : Phase) (store : Store) (o : Option (Collection (List ℕ))) → IsCollecting phase store (option_map forget_collection o) → IsCollecting phase store o
collecting_back phase store None is = absurd is
collecting_back phase store (Some c) is = is

pub none_left : (o : Option (Collection (List ℕ))) → option_map forget_collection o ≡ None → o ≡ None
none_left None is = refl
none_left (Some c) is = absurd (let wrong : Some (forget_collection c) ≡ None = is in cc)

pub one_left : (o : Option (Collection (List ℕ))) (d : Collection Root) → option_map forget_collection o ≡ Some d
    → (c : Collection (List ℕ)) × (o ≡ Some c) × (d ≡ forget_collection c)
one_left None d is = absurd (let wrong : None ≡ Some d = is in cc)
one_left (Some c) d is = (c, refl, let same : forget_collection c ≡ d = cc in sym same)

-- ---- collections

-- one that begins
abbrev pub begun_by : {V R : Type 0} → (percent snapshot : ℕ) → Machine V R → Collection V
begun_by percent snapshot m = record {
  percent = percent;
  snapshot = snapshot;
  stage = marking (marks_of m.store.held);
  recorded = [];
  changes = [];
  values = finite.values m.now.names ++ values_read m.parts;
  keys = keys_kept m.parts;
}

-- what a machine is once its collection went on
abbrev pub gone_by : {V R : Type 0} → Phase → Collection V → Went → Store → Machine V R → Machine V R
gone_by phase c w store m = record m {
  store = store;
  last_id = last_by w.changes m.last_id;
  forgotten = w.forgotten;
  swept = swept_by phase m.swept;
  collection = Some (record c { stage = w.stage; recorded = w.recorded; changes = c.changes ++ w.changes });
}

-- ---- of machines of which the rest was forgotten, one thing is another

module _ (m : F) (r : G) (same : Forgets m r) where
  pub with_parts : (ps : List FilePart) (qs : List RootPart) → SameParts ps qs → Forgets (record m { parts = ps }) (record r { parts = qs })
  with_parts ps qs parts = record {
    now = same.now;
    parts = parts;
    store = same.store;
    last_id = same.last_id;
    forgotten = same.forgotten;
    swept = same.swept;
    collection = same.collection;
    acknowledged = same.acknowledged;
    state = same.state;
  }

  -- what an actor is at
  pub put : (a : ℕ) (p : FilePart) (q : RootPart) → SamePart p q → Forgets (put_at m a p) (put_at r a q)
  put a p q one = with_parts (slice_set m.parts a p) (slice_set r.parts a q) (set_at m.parts r.parts a p q same.parts one)

  pub with_collection : (c : Option (Collection (List ℕ))) (d : Option (Collection Root)) → d ≡ option_map forget_collection c
      → Forgets (record m { collection = c }) (record r { collection = d })
  with_collection c d is = record {
    now = same.now;
    parts = same.parts;
    store = same.store;
    last_id = same.last_id;
    forgotten = same.forgotten;
    swept = same.swept;
    collection = is;
    acknowledged = same.acknowledged;
    state = same.state;
  }

  pub with_step : (phase : Phase) (c : Collection (List ℕ)) (w : Went) (store : Store) → Forgets (gone_by phase c w store m) (gone_by phase (forget_collection c) w store r)
  with_step phase c w store = record {
    now = same.now;
    parts = same.parts;
    store = refl;
    last_id = ap (last_by w.changes) same.last_id;
    forgotten = refl;
    swept = ap (swept_by phase) same.swept;
    collection = refl;
    acknowledged = same.acknowledged;
    state = same.state;
  }

  pub with_state : (s : RunState (List ℕ)) (u : RunState Root) → SameState s u → Forgets (record m { state = s }) (record r { state = u })
  with_state s u one = record {
    now = same.now;
    parts = same.parts;
    store = same.store;
    last_id = same.last_id;
    forgotten = same.forgotten;
    swept = same.swept;
    collection = same.collection;
    acknowledged = same.acknowledged;
    state = one;
  }

  -- the names, by a record
  pub with_names : (x : Found (List ℕ)) (y : Found Root) (f : Store → Store) → SameNow x y
      → Forgets (record m { now = x; store = f m.store; acknowledged = one_more m.acknowledged })
      (record r { now = y; store = f r.store; acknowledged = one_more r.acknowledged })
  with_names x y f one = record {
    now = one;
    parts = same.parts;
    store = ap f same.store;
    last_id = same.last_id;
    forgotten = same.forgotten;
    swept = same.swept;
    collection = same.collection;
    acknowledged = ap one_more same.acknowledged;
    state = same.state;
  }

-- ---- of machines that were opened just now

abbrev pub fresh : {V R : Type 0} → Found V → Store → Machine V R
fresh found store = record {
  now = found;
  parts = all_idle;
  store = store;
  last_id = last_id store.held;
  forgotten = [];
  swept = false;
  collection = None;
  acknowledged = 0;
  state = Running;
}

pub fresh_same : (x : Found (List ℕ)) (y : Found Root) (store : Store) → SameNow x y → Forgets (fresh x store) (fresh y store)
fresh_same x y store one =
    record { now = one; parts = all_same ACTORS; store = refl; last_id = refl; forgotten = refl; swept = refl; collection = refl; acknowledged = refl; state = tt }
