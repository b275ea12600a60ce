-- The names that jobs give: each is one, there are few, and no two workers have one.
use Rattle.std.proofs.Common.{◌≡◌, ◌≢◌, ◌⊎◌, inl, inr, ◌≤◌, ◌<◌, ◌+◌, ◌-◌, ◌*◌, ◌^◌, ◌%◌, ◌==◌, if◌then◌else◌, ℕ, zero, suc, Bool, true, false, cond, ◌||◌, List, [], ◌∷◌, ◌++◌, map, length, codes, decimal, is_some, Option, Some, None, refl, sym, ap, ◌∙◌, subst, arith, eqb-true, length-append}
use Rattle.std.proofs.lemmas.Bool.{cases_lt}
use Rattle.std.specs.FinMap as finite
use Rattle.std.specs.Int.Digits.{AllBelowBase, digits_of}
use Rattle.std.specs.List.{All, AllByRecursion, Contains}
use Rattle.std.specs.Ordering.{eq_by_cmp, nat_cmp}
use Rattle.std.specs.Cmp.Lexicographic.{nat_list_cmp_total, slice_cmp}
use Rattle.std.specs.Str.{bytes_eq}
use Rattle.std.proofs.lemmas.Fmt.{decimal-digits_of, decimal_digit, length-decimal-le}
use Rattle.std.proofs.lemmas.Int.Digits.{all_below_base_digits_of}
use Rattle.std.proofs.lemmas.List.Elements.{All-append}
use Rattle.std.proofs.lemmas.Slice.Eq.{bytes_eq-Decides}
use Rattle.disk_format.specs.Cells.{IsName}
use Rattle.load_stream.specs.Load.{LoadState}
use Rattle.store_model.specs.Files.{Files, with_file, without_file}
use Rattle.store_model.proofs.Indexing.{tied}
use Rattle.ingest_workers.specs.declared.job.Job.{Job}
use Rattle.ingest_workers.specs.Jobs.{file_of, temp_name, work_name}
use Rattle.ingest_workers.specs.Owing.{own_files}
use Rattle.ingest_workers.proofs.Names.{temp_is_no_work, temp_number}
use Rattle.shared_work.proofs.CompleteWalks.{IsMine}

-- ---- each is a name

abbrev IsPrintable : ℕ → Type 0
IsPrintable byte = (0x21 ≤ byte) × (byte ≤ 0x7E)

all_of : (P : ℕ → Type 0) (xs : List ℕ) → AllByRecursion P xs → All P xs
all_of P [] each k d below = absurd (omega (arith, below))
all_of P (x ∷ xs) each zero d below = each.0
all_of P (x ∷ xs) each (suc k) d below = all_of P xs each.1 k d (omega (arith, below))

printable_digits : (ds : List ℕ) → AllBelowBase 10 ds → AllByRecursion IsPrintable (map (λ d. 48 + d) ds)
printable_digits [] each = tt
printable_digits (d ∷ ds) each = ((omega arith, omega (arith, each.0)), printable_digits ds each.1)

printable_number : (n : ℕ) → n < 2 ^ 64 → AllByRecursion IsPrintable (decimal n)
printable_number n small = elim (cases_lt 0 n) [
  | inl some ↦ subst (AllByRecursion IsPrintable) (sym (decimal-digits_of n some small)) (printable_digits (digits_of 10 n) (all_below_base_digits_of 10 n (omega arith)))
  | inr none ↦
      let zero_is : n ≡ 0 = omega (arith, none) in
      subst (λ (k : ℕ). AllByRecursion IsPrintable (decimal k)) (sym zero_is)
      (subst (AllByRecursion IsPrintable) (sym (decimal_digit 0 (omega arith))) ((omega arith, omega arith), tt))
]

-- such a word, of five bytes, with a number
word_named : (word : List ℕ) (n : ℕ) → length word ≡ 5 → AllByRecursion IsPrintable word → n < 2 ^ 64 → IsName (word ++ decimal n)
word_named word n five each small =
    let few = length-decimal-le 20 n (omega arith) (omega (arith, small)) small in
    let long = length-append word (decimal n) in
    record {
      not_empty = omega (arith, five, long);
      not_long = omega (arith, five, long, few);
      printable = All-append IsPrintable word (decimal n) (all_of IsPrintable word each) (all_of IsPrintable (decimal n) (printable_number n small));
    }

temp_named : (n : ℕ) → n < 2 ^ 64 → IsName (temp_name n)
temp_named n small =
    word_named (codes "temp.") n refl
    ((omega arith, omega arith), ((omega arith, omega arith), ((omega arith, omega arith), ((omega arith, omega arith), ((omega arith, omega arith), tt))))) small

work_named : (n : ℕ) → n < 2 ^ 64 → IsName (work_name n)
work_named n small =
    word_named (codes "work.") n refl
    ((omega arith, omega arith), ((omega arith, omega arith), ((omega arith, omega arith), ((omega arith, omega arith), ((omega arith, omega arith), tt))))) small

-- ---- files of jobs

-- a job whose file it is, of this worker, of which P holds
abbrev pub IsOf : (P : Job → Type 0) → (count worker : ℕ) → LoadState → Type 0
IsOf P count worker file = (job : Job) × (P job × ((file_of job ≡ file) × (job.number % count ≡ worker)))

own_from : (mine : Bool) (job : Job) (rest : List LoadState) (file : LoadState) → Contains (if mine then file_of job ∷ rest else rest) file
    → ((mine ≡ true) × (file_of job ≡ file)) ⊎ Contains rest file
own_from true job rest file (zero, within, is) = inl (refl, is)
own_from true job rest file (suc i, within, is) = inr (i, omega (arith, within), is)
own_from false job rest file there = inr there

pub own_job : (P : Job → Type 0) (count worker : ℕ) (jobs : List Job) (file : LoadState) → AllByRecursion P jobs → Contains (own_files count worker jobs) file
    → IsOf P count worker file
own_job P count worker [] file each (i, within, is) = absurd (omega (arith, within))
own_job P count worker (job ∷ jobs) file each there = elim (own_from (job.number % count == worker) job (own_files count worker jobs) file there) [
  | inl here ↦ (job, (each.0, (here.1, eqb-true (job.number % count) worker here.0)))
  | inr later ↦ own_job P count worker jobs file each.1 later
]

-- a name of one of them is one
pub mine_named : (count worker : ℕ) (jobs : List Job) (name : List ℕ) → AllByRecursion (λ j. j.number < 2 ^ 64) jobs → IsMine (own_files count worker jobs) name → IsName name
mine_named count worker jobs name small (file, (there, named)) =
    let of = own_job (λ j. j.number < 2 ^ 64) count worker jobs file small there in
    let less : file.file < 2 ^ 64 = subst (λ (f : LoadState). f.file < 2 ^ 64) of.1.1.0 of.1.0 in
    elim named [ inl is ↦ subst IsName (sym is) (temp_named file.file less) | inr is ↦ subst IsName (sym is) (work_named file.file less) ]

-- what one worker deletes is no name of another's
pub not_anothers : (count worker other : ℕ) (jobs : List Job) (file : LoadState) (name : List ℕ) → AllByRecursion (λ j. j.number < 2 ^ 64) jobs
    → Contains (own_files count other jobs) file → IsMine (own_files count worker jobs) name → other ≢ worker → temp_name file.file ≢ name
not_anothers count worker other jobs file name small there (g, (mine, named)) differ same =
    let one = own_job (λ j. j.number < 2 ^ 64) count other jobs file small there in
    let two = own_job (λ j. j.number < 2 ^ 64) count worker jobs g small mine in
    let first_less : file.file < 2 ^ 64 = subst (λ (f : LoadState). f.file < 2 ^ 64) one.1.1.0 one.1.0 in
    let two_less : g.file < 2 ^ 64 = subst (λ (f : LoadState). f.file < 2 ^ 64) two.1.1.0 two.1.0 in
    elim named [
      | inl is ↦
          let numbers : file.file ≡ g.file = temp_number file.file g.file first_less two_less (same ∙ is) in
          differ (sym one.1.1.1 ∙ ap (λ (n : ℕ). n % count) (ap (λ (f : LoadState). f.file) one.1.1.0 ∙ numbers ∙ sym (ap (λ (f : LoadState). f.file) two.1.1.0)) ∙ two.1.1.1)
      | inr is ↦ temp_is_no_work file.file g.file (same ∙ is)
    ]

-- ---- there are few

abbrev pub IsIn : List (List ℕ) → List ℕ → Type 0
IsIn [] name = ⊥
IsIn (x ∷ xs) name = (name ≡ x) ⊎ IsIn xs name

abbrev pub names_of : List Job → List (List ℕ)
names_of [] = []
names_of (job ∷ jobs) = temp_name job.number ∷ (work_name job.number ∷ names_of jobs)

pub names_many : (jobs : List Job) → length (names_of jobs) ≡ 2 * length jobs
names_many [] = refl
names_many (job ∷ jobs) = let more = names_many jobs in omega (arith, more)

pub mine_in : (count worker : ℕ) (jobs : List Job) (name : List ℕ) → IsMine (own_files count worker jobs) name → IsIn (names_of jobs) name
mine_in count worker [] name (file, ((i, within, is), named)) = absurd (omega (arith, within))
mine_in count worker (job ∷ jobs) name (file, (there, named)) = elim (own_from (job.number % count == worker) job (own_files count worker jobs) file there) [
  | inl here ↦
      let number : file.file ≡ job.number = sym (ap (λ (f : LoadState). f.file) here.1) in
      elim named [ inl is ↦ inl (is ∙ ap temp_name number) | inr is ↦ inr (inl (is ∙ ap work_name number)) ]
  | inr later ↦ inr (inr (mine_in count worker jobs name (file, (later, named))))
]

pub none_there : (files : Files) → ((name file : List ℕ) → finite.get files name ≡ Some file → ⊥) → finite.len files ≡ 0
none_there files none =
    ap finite.len (finite.same_map nat_list_cmp_total (finite.slice_cmp-IsAntisymmetric finite.nat_cmp-IsAntisymmetric) files finite.empty
    (λ name. by name (finite.get files name) refl ∙ sym (finite.get-empty (slice_cmp nat_cmp) name))) ∙ finite.len-empty (slice_cmp nat_cmp) (List ℕ)
  where
    by : (name : List ℕ) (o : Option (List ℕ)) → finite.get files name ≡ o → finite.get files name ≡ None
    by name None is = is
    by name (Some file) is = absurd (none name file is)

removed_many : (b : Bool) (all : ℕ) → all ≤ suc (cond b (all - 1) all)
removed_many true all = omega arith
removed_many false all = omega arith

-- no more than these, where each is one of them
few : (names : List (List ℕ)) (files : Files) → ((name file : List ℕ) → finite.get files name ≡ Some file → IsIn names name) → finite.len files ≤ length names
few [] files each = let none = none_there files each in omega (arith, none)
few (x ∷ xs) files each =
    let less = few xs (without_file files x) others in
    let many = finite.len-remove nat_list_cmp_total files x in
    let bound = removed_many (finite.contains_key files x) (finite.len files) in
    omega (arith, less, many, bound)
  where
    by : (name file : List ℕ) (b : Bool) → bytes_eq x name ≡ b → cond b None (finite.get files name) ≡ Some file → IsIn xs name
    by name file true same got = absurd (let wrong : ◌≡◌ {A = Option (List ℕ)} None (Some file) = got in cc)
    by name file false same got = elim (each name file got) [
      | inl is ↦ absurd (let wrong : true ≡ false = sym ((bytes_eq-Decides x name).1 (sym is)) ∙ same in cc)
      | inr later ↦ later
    ]

    others : (name file : List ℕ) → finite.get (without_file files x) name ≡ Some file → IsIn xs name
    others name file got =
        by name file (bytes_eq x name) refl
        (sym (finite.get-remove nat_list_cmp_total files x name ∙ ap (λ (b : Bool). cond b None (finite.get files name)) (tied name x)) ∙ got)

-- and fewer, where one of them is not there
pub fewer : (names : List (List ℕ)) (files : Files) (name : List ℕ) → ((n file : List ℕ) → finite.get files n ≡ Some file → IsIn names n) → IsIn names name
    → finite.get files name ≡ None → finite.len files < length names
fewer names files name each one none =
    let less = few names (with_file files name []) all in
    let many = finite.len-insert nat_list_cmp_total files name [] in
    let new : finite.contains_key files name ≡ false = ap is_some none in
    let more : finite.len (with_file files name []) ≡ finite.len files + 1 = many ∙ ap (λ (b : Bool). cond b (finite.len files) (finite.len files + 1)) new in
    omega (arith, less, more)
  where
    by : (n file : List ℕ) (b : Bool) → bytes_eq name n ≡ b → cond b (Some []) (finite.get files n) ≡ Some file → IsIn names n
    by n file true same got = subst (IsIn names) ((bytes_eq-Decides name n).0 same) one
    by n file false same got = each n file got

    all : (n file : List ℕ) → finite.get (with_file files name []) n ≡ Some file → IsIn names n
    all n file got =
        by n file (bytes_eq name n) refl
        (sym (finite.get-insert nat_list_cmp_total files name [] n ∙ ap (λ (b : Bool). cond b (Some []) (finite.get files n)) (tied n name)) ∙ got)

-- ---- a file more, and one less

pub put_there : (files : Files) (name bytes n : List ℕ) (b : Bool) → bytes_eq name n ≡ b → (b || is_some (finite.get files n)) ≡ true
    → is_some (finite.get (with_file files name bytes) n) ≡ true
put_there files name bytes n b is there =
    ap is_some (finite.get-insert nat_list_cmp_total files name bytes n) ∙ by b (tied n name ∙ is) there
  where
    by : (b : Bool) → eq_by_cmp (slice_cmp nat_cmp) n name ≡ b → (b || is_some (finite.get files n)) ≡ true
        → is_some (cond (eq_by_cmp (slice_cmp nat_cmp) n name) (Some bytes) (finite.get files n)) ≡ true
    by true same there = ap (λ (c : Bool). is_some (cond c (Some bytes) (finite.get files n))) same
    by false same there = ap (λ (c : Bool). is_some (cond c (Some bytes) (finite.get files n))) same ∙ there

pub left_there : (files : Files) (name n : List ℕ) → bytes_eq name n ≡ false → is_some (finite.get files n) ≡ true → is_some (finite.get (without_file files name) n) ≡ true
left_there files name n differ there =
    ap is_some (finite.get-remove nat_list_cmp_total files name n ∙ ap (λ (b : Bool). cond b None (finite.get files n)) (tied n name ∙ differ)) ∙ there
