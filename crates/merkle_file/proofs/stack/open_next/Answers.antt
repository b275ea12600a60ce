use Rattle.merkle_file.proofs.Prelude.{◌≡◌, ℕ, ◌-◌, ◌++◌, ◌∷◌, List, drop, take, length, map, reverse, refl, sym, ap, subst, ◌∙◌, arith, reverse-append, Top, Asked, Contents, contents_in, IsWithin, HasRoom, below, opened}
use Rattle.std.proofs.Common.{vec_len}
use Rattle.std.proofs.lemmas.List.{length-reverse, reverse-reverse}
use Rattle.merkle_file.specs.Reading.{children_in, short_number}
use Rattle.merkle_file.proofs.Walking.{is_named, opened_next}
use Rattle.merkle_file.proofs.stack.open_next.Goals as goal
use Rattle.merkle_file.proofs.InPlace.{count_read}

-- the tree that was next, and those after it
split : (items now left : List Top) (t : Top) (len : ℕ) → now ≡ items → length now ≡ len → reverse now ≡ t ∷ reverse (take (length now - 1) now) → left ≡ take (len - 1) items
    → reverse items ≡ t ∷ reverse left
split items now left t len is len_is e left_is =
    ap reverse (sym is) ∙ e
    ∙ ap (λ (k : ℕ). t ∷ reverse (take (k - 1) now)) len_is ∙ ap (λ (ts : List Top). t ∷ reverse (take (len - 1) ts)) is
    ∙ ap (λ (ts : List Top). t ∷ reverse ts) (sym left_is)

-- the stack after the trees below a node were put on it
stacked : (left : List Top) (t : Top) (n : Contents) (count : ℕ) (entries bytes : List ℕ) (after : List Top)
    → n ≡ contents_in bytes → count ≡ short_number (drop 2 bytes) → entries ≡ drop 4 bytes → n.level ≡ t.level
    → after ≡ left ++ reverse (map (below t.level) (children_in count entries)) → reverse after ≡ opened n ++ reverse left
stacked left t n count entries bytes after is count_is entries_is level e =
    ap reverse e ∙ reverse-append left (reverse (map (below t.level) (children_in count entries)))
    ∙ ap (λ (ts : List Top). ts ++ reverse left) (reverse-reverse (map (below t.level) (children_in count entries))
    ∙ rw (count_is, entries_is, ← level) (ap (λ (m : Contents). map (below n.level) m.children) (sym is)))

pub push_children-requires-clause-room : goal.push_children-requires-clause-room
push_children-requires-clause-room c =
    let n = contents_in c.args.bytes.now in
    let e = split c.args.stack.now.items c.deref.result.now c.pop.new.self.items c.next_of-top.result (vec_len c.args.stack.now) c.deref.ensures.value c.deref.ensures.len
    c.next_of-top.ensures c.pop.ensures.rest in
    let found = c.in_ok-check.ensures.found in
    let within = subst (λ (a : Asked). IsWithin a n) c.asked_for.ensures found.2 in
    let opened_is = opened_next c.args.stack.now.items c.pop.new.self.items c.next_of-top.result n e c.requires.room found.1 (is_named c.next_of-top.result n found.1 within) in
    omega (
      arith,
      opened_is.few,
      length-reverse c.pop.new.self.items,
      c.count_of.ensures,
      count_read (short_number (drop 2 c.args.bytes.now)) (drop 4 c.args.bytes.now),
      found.1.most,
      c.pop.ensures.capacity,
      c.requires.capacity,
    )

pub returns-clause-room : goal.returns-clause-room
returns-clause-room c =
    let n = contents_in c.args.bytes.now in
    let e = split c.args.stack.now.items c.deref.result.now c.pop.new.self.items c.next_of-top.result (vec_len c.args.stack.now) c.deref.ensures.value c.deref.ensures.len
    c.next_of-top.ensures c.pop.ensures.rest in
    let found = c.in_ok-check.ensures.found in
    let within = subst (λ (a : Asked). IsWithin a n) c.asked_for.ensures found.2 in
    let named = is_named c.next_of-top.result n found.1 within in
    let opened_is = opened_next c.args.stack.now.items c.pop.new.self.items c.next_of-top.result n e c.requires.room found.1 named in
    subst HasRoom (sym (stacked c.pop.new.self.items c.next_of-top.result n c.count_of.result c.split_at.result.1.now c.args.bytes.now c.push_children.new.stack.items refl
    c.count_of.ensures c.split_at.ensures.back named.level c.push_children.ensures.items)) opened_is.room
