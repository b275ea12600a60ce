-- The two laws of nodes: bytes with no wrong field are a node's spelling, and a node's spelling has none.
use Rattle.merkle_file.proofs.Prelude.{◌≡◌, ℕ, zero, suc, ◌+◌, ◌-◌, ◌*◌, ◌^◌, ◌<◌, ◌≤◌, List, [], ◌∷◌, ◌++◌, length, take, drop, refl, sym, ap, ◌∙◌, arith, inl, inr, w16, to_be_bytes, flat_map, AllByRecursion, cases_lt, eqb-true, ne_eqb, eq-eqb, drop_at, length-append, length-take, length-drop, flat_map-cons, sum_by-cons, Child, FieldFault, Asked, MOST_FILE, Contents, total, entry, IsChild, IsNode, child_in, contents_in, first_fault, IsAsked, IsWithin}
use Rattle.std.proofs.Common.{Some, None}
use Rattle.std.specs.Prelude.{slice_index}
use Rattle.std.proofs.lemmas.Bool.{ltb-false, le-ltb, or_parts, or_from}
use Rattle.disk_format.specs.declared.numbers.TheConstants.{NODE_FORM}
use Rattle.merkle_file.specs.Node.{spelling}
use Rattle.merkle_file.specs.Reading.{short_number, long_number, children_in, head_fault, entry_fault, entries_fault}
use Rattle.merkle_file.proofs.Fields.{IsBytes, IsBytes-drop, nothing_if, nothing_unless, or_else_none, short_back, short_again, IsCount, count_takes, count_again, IsRight, entry_takes, entry_parts, length-entry, child_again, length_again, entry_again}

-- ---- one entry after the other

pub entries_step : (asked : Asked) (level count i at before len : ℕ) (rest : List ℕ) → i < count → entry_fault asked level (count - 1 - i) at before rest ≡ None →
    len ≡ long_number (drop 32 rest)
    → entries_fault asked level (count - i) at before rest ≡ entries_fault asked level (count - (i + 1)) (at + 40) (before + len) (drop 40 rest)
unfolding entries_fault
entries_step asked level count i at before len rest lt none is =
    let k : count - i ≡ suc (count - (i + 1)) = omega arith in
    let m : count - 1 - i ≡ count - (i + 1) = omega arith in
    let none' : entry_fault asked level (count - (i + 1)) at before rest ≡ None = rw (← m) none in
    rw (k, none', is) refl

-- the first entry that is wrong stops the reading
pub entries_stop : (asked : Asked) (level count i at before : ℕ) (rest : List ℕ) (fault : FieldFault) → i < count
    → entry_fault asked level (count - 1 - i) at before rest ≡ Some fault → entries_fault asked level (count - i) at before rest ≡ Some fault
unfolding entries_fault
entries_stop asked level count i at before rest fault lt wrong =
    let k : count - i ≡ suc (count - (i + 1)) = omega arith in
    let m : count - 1 - i ≡ count - (i + 1) = omega arith in
    let wrong' : entry_fault asked level (count - (i + 1)) at before rest ≡ Some fault = rw (← m) wrong in
    rw (k, wrong') refl

pub children_step : (count i : ℕ) (rest : List ℕ) → i < count → children_in (count - i) rest ≡ child_in rest ∷ children_in (count - (i + 1)) (drop 40 rest)
unfolding children_in
children_step count i rest lt =
    let k : count - i ≡ suc (count - (i + 1)) = omega arith in
    rw k refl

-- ---- bytes with no wrong field

-- what entries with nothing wrong say
pub record AreEntries (asked : Asked) (level n before : ℕ) (bytes : List ℕ) : Type 0 where
  pub parts : bytes ≡ flat_map entry (children_in n bytes)
  pub each : AllByRecursion (IsChild level) (children_in n bytes)
  pub count : length (children_in n bytes) ≡ n
  pub most : before ≤ asked.most → before + total (children_in n bytes) ≤ asked.most
  pub least : 0 < n → asked.least ≤ before + total (children_in n bytes)

none_total : (n : ℕ) (bytes : List ℕ) → n ≡ 0 → total (children_in n bytes) ≡ 0
unfolding children_in
none_total n bytes e = rw e refl

least_of : (n len others least before : ℕ) → (n ≡ 0 → least ≤ before + len) → (0 < n → least ≤ before + len + others) → (n ≡ 0 → others ≡ 0) → least ≤ before + (len + others)
least_of n len others least before here later none =
    elim (cases_lt 0 n) [
      | inl lt ↦ omega (arith, later lt)
      | inr le ↦ (let zero_n : n ≡ 0 = omega arith in omega (arith, here zero_n, none zero_n))
    ]

pub entries_take : (asked : Asked) (level n at before : ℕ) (bytes : List ℕ) → IsBytes bytes → length bytes ≡ 40 * n → entries_fault asked level n at before bytes ≡ None
    → AreEntries asked level n before bytes
unfolding entries_fault children_in
entries_take asked level zero at before [] fits long e = record { parts = refl; each = tt; count = refl; most = λ h. omega arith; least = λ h. absurd (omega arith) }
entries_take asked level zero at before (b ∷ bytes) fits long e = absurd (omega (arith, long))
entries_take asked level (suc n) at before bytes fits long e =
    let both = or_else_none _ _ e in
    let this = entry_takes asked level n at before bytes both.0 in
    let there : 40 ≤ length bytes = omega (arith, long) in
    let len : ℕ = long_number (drop 32 bytes) in
    let others = entries_take asked level n (at + 40) (before + len) (drop 40 bytes) (IsBytes-drop 40 bytes fits) (omega (arith, long, length-drop 40 bytes)) both.1 in
    let sum : total (children_in (suc n) bytes) ≡ len + total (children_in n (drop 40 bytes)) =
    sum_by-cons (λ (c : Child). c.length) (child_in bytes) (children_in n (drop 40 bytes)) in
    record {
      parts = entry_parts bytes there fits ∙ ap (λ (t : List ℕ). entry (child_in bytes) ++ t) others.parts
          ∙ sym (flat_map-cons entry (child_in bytes) (children_in n (drop 40 bytes)));
      each = (record { digest = omega (arith, length-take 32 bytes, there); some = this.some; most = this.most }, others.each);
      count = ap suc others.count;
      most = λ h. rw sum (omega (arith, others.most this.below));
      least = λ h. rw sum (least_of n len (total (children_in n (drop 40 bytes))) asked.least before this.least others.least (none_total n (drop 40 bytes)));
    }

-- ---- what comes before the entries

-- what a head with nothing wrong says
pub record IsHead (asked : Asked) (bytes : List ℕ) : Type 0 where
  pub long : 4 ≤ length bytes
  pub lowest : asked.lowest ≤ slice_index bytes 0
  pub greatest : slice_index bytes 0 ≤ asked.greatest
  pub form : slice_index bytes 1 ≡ NODE_FORM
  pub count : IsCount (short_number (drop 2 bytes)) (length bytes)

head_takes : (asked : Asked) (bytes : List ℕ) → head_fault asked bytes ≡ None → IsHead asked bytes
unfolding head_fault
head_takes asked bytes e =
    let a = nothing_if _ _ _ e in
    let b = nothing_if _ _ _ a.1 in
    let c = nothing_if _ _ _ b.1 in
    let d = nothing_unless _ _ _ c.1 in
    let f = nothing_if _ _ _ d.1 in
    let g = nothing_unless _ _ _ f.1 in
    let level = or_parts _ _ b.0 in
    record {
      long = ltb-false _ _ f.0;
      lowest = ltb-false _ _ level.0;
      greatest = ltb-false _ _ level.1;
      form = eqb-true _ _ d.0;
      count = count_takes _ _ g.0;
    }

head_again : (asked : Asked) (bytes : List ℕ) → IsHead asked bytes → head_fault asked bytes ≡ None
unfolding head_fault
head_again asked bytes h =
    rw (
      ne_eqb (length bytes) 0 (λ e. omega (arith, h.long)),
      or_from _ _ (le-ltb (slice_index bytes 0) asked.lowest h.lowest) (le-ltb asked.greatest (slice_index bytes 0) h.greatest),
      ne_eqb (length bytes) 1 (λ e. omega (arith, h.long)),
      eq-eqb (slice_index bytes 1) NODE_FORM h.form,
      le-ltb (length bytes) 4 h.long,
      count_again (short_number (drop 2 bytes)) (length bytes) h.count,
    ) refl

four_parts : (bytes : List ℕ) → 4 ≤ length bytes → bytes ≡ (slice_index bytes 0 ∷ slice_index bytes 1 ∷ take 2 (drop 2 bytes)) ++ drop 4 bytes
four_parts [] h = absurd (omega arith)
four_parts (a ∷ []) h = absurd (omega arith)
four_parts (a ∷ b ∷ []) h = absurd (omega arith)
four_parts (a ∷ b ∷ c ∷ []) h = absurd (omega arith)
four_parts (a ∷ b ∷ c ∷ d ∷ bytes) h = refl

-- ---- both laws

-- what bytes with no wrong field are
pub record IsRead (asked : Asked) (bytes : List ℕ) : Type 0 where
  pub spelled : bytes ≡ spelling (contents_in bytes)
  pub node : IsNode (contents_in bytes)
  pub within : IsWithin asked (contents_in bytes)
  pub long : length bytes ≡ 4 + 40 * short_number (drop 2 bytes)

pub node_takes : (asked : Asked) (bytes : List ℕ) → IsAsked asked → IsBytes bytes → first_fault asked bytes ≡ None → IsRead asked bytes
unfolding spelling
node_takes asked bytes may fits e =
    let both = or_else_none _ _ e in
    let head = head_takes asked bytes both.0 in
    let count : ℕ = short_number (drop 2 bytes) in
    let entries = entries_take asked (slice_index bytes 0) count 4 0 (drop 4 bytes) (IsBytes-drop 4 bytes fits) (omega (arith, head.count.fills, length-drop 4 bytes)) both.1 in
    let said : List ℕ = flat_map entry (children_in count (drop 4 bytes)) in
    let back : to_be_bytes w16 count ≡ take 2 (drop 2 bytes) = short_back (drop 2 bytes) (omega (arith, length-drop 2 bytes, head.long)) (IsBytes-drop 2 bytes fits) in
    let most : total (children_in count (drop 4 bytes)) ≤ asked.most = omega (arith, entries.most (omega arith)) in
    record {
      spelled = four_parts bytes head.long
          ∙ ap (λ (t : List ℕ). (slice_index bytes 0 ∷ slice_index bytes 1 ∷ take 2 (drop 2 bytes)) ++ t) entries.parts
          ∙ ap (λ (f : ℕ). (slice_index bytes 0 ∷ f ∷ take 2 (drop 2 bytes)) ++ said) head.form
          ∙ ap (λ (t : List ℕ). (slice_index bytes 0 ∷ NODE_FORM ∷ t) ++ said) (sym back)
          ∙ ap (λ (k : ℕ). (slice_index bytes 0 ∷ NODE_FORM ∷ to_be_bytes w16 k) ++ said) (sym entries.count);
      node = record {
        above = omega (arith, may.lowest, head.lowest);
        level = omega (arith, may.greatest, head.greatest);
        some = omega (arith, entries.count, head.count.some);
        most = omega (arith, entries.count, head.count.most);
        each = entries.each;
        total = omega (arith, most, may.most);
      };
      within = record { lowest = head.lowest; greatest = head.greatest; least = omega (arith, entries.least head.count.some); most = most };
      long = head.count.fills;
    }

none_sum : (children : List Child) → length children ≡ 0 → total children ≡ 0
none_sum [] e = refl
none_sum (c ∷ cs) e = absurd (omega (arith, e))

-- entries that are spelled have no wrong field, and are read again
entries_again : (asked : Asked) (level at before : ℕ) (children : List Child) → asked.most ≤ MOST_FILE → AllByRecursion (IsChild level) children
    → before + total children ≤ asked.most → (0 < length children → asked.least ≤ before + total children)
    → (entries_fault asked level (length children) at before (flat_map entry children) ≡ None) × (children_in (length children) (flat_map entry children) ≡ children)
unfolding entries_fault children_in
entries_again asked level at before [] small each most least = (refl, refl)
entries_again asked level at before (c ∷ cs) small each most least =
    let rest : List ℕ = flat_map entry cs in
    let sum : total (c ∷ cs) ≡ c.length + total cs = sum_by-cons (λ (d : Child). d.length) c cs in
    let fits : c.length < 2 ^ 64 = omega (arith, sum, most) in
    let len : length c.digest ≡ 32 = each.0.digest in
    let right : IsRight asked level (length cs) before c.length = record {
      some = each.0.some;
      most = each.0.most;
      below = omega (arith, sum, most);
      least = λ none. omega (arith, sum, least (omega arith), none_sum cs none);
    } in
    let others = entries_again asked level (at + 40) (before + c.length) cs small each.1 (omega (arith, sum, most)) (λ h. omega (arith, sum, least (omega arith))) in
    let this = entry_again asked level (length cs) at before c rest len fits right in
    let one : child_in (entry c ++ rest) ≡ c = child_again c rest len fits in
    let number : long_number (drop 32 (entry c ++ rest)) ≡ c.length = length_again c rest len fits in
    let after : drop 40 (entry c ++ rest) ≡ rest = drop_at (entry c) rest 40 (length-entry c len) in
    (rw (flat_map-cons entry c cs, this, number, after) others.0, rw (flat_map-cons entry c cs, one, after) (ap (λ (t : List Child). c ∷ t) others.1))

pub length-entries : (level : ℕ) (children : List Child) → AllByRecursion (IsChild level) children → length (flat_map entry children) ≡ 40 * length children
length-entries level [] each = refl
length-entries level (c ∷ cs) each =
    omega (arith, length-entry c each.0.digest, length-entries level cs each.1, ap length (flat_map-cons entry c cs), length-append (entry c) (flat_map entry cs))

none_or : (asked : Asked) (bytes : List ℕ) → head_fault asked bytes ≡ None
    → entries_fault asked (slice_index bytes 0) (short_number (drop 2 bytes)) 4 0 (drop 4 bytes) ≡ None → first_fault asked bytes ≡ None
none_or asked bytes e f = rw (e, f) refl

pub node_again : (asked : Asked) (n : Contents) → IsAsked asked → IsNode n → IsWithin asked n → (first_fault asked (spelling n) ≡ None) × (contents_in (spelling n) ≡ n)
unfolding spelling
node_again asked n may right within =
    let rest : List ℕ = flat_map entry n.children in
    let k : ℕ = length n.children in
    let bytes : List ℕ = n.level ∷ NODE_FORM ∷ (to_be_bytes w16 k ++ rest) in
    let small : k < 2 ^ 16 = omega (arith, right.most) in
    let count : short_number (drop 2 bytes) ≡ k = short_again k rest small in
    let size : length bytes ≡ 4 + 40 * k = omega (arith, length-entries n.level n.children right.each, length-append (to_be_bytes w16 k) rest) in
    let entries = entries_again asked n.level 4 0 n.children may.most right.each (omega (arith, within.most)) (λ h. omega (arith, within.least)) in
    let head : head_fault asked bytes ≡ None = head_again asked bytes (record {
      long = omega arith;
      lowest = within.lowest;
      greatest = within.greatest;
      form = refl;
      count = record { some = omega (arith, count, right.some); most = omega (arith, count, right.most); fills = omega (arith, count, size) };
    }) in
    let fields : entries_fault asked n.level (short_number (drop 2 bytes)) 4 0 rest ≡ None = rw count entries.0 in
    let read : children_in (short_number (drop 2 bytes)) rest ≡ n.children = rw count entries.1 in
    (none_or asked bytes head fields, ap (λ (cs : List Child). let made : Contents = record { level = n.level; children = cs } in made) read)
