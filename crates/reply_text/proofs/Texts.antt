-- The pieces of a line that carries something are that line. What is not here the check finds by itself.
use Rattle.std.proofs.Common.{◌≡◌, ◌≤◌, ℕ, false, List, [], ◌∷◌, ◌++◌, append_assoc, codes, decimal, length, drop, Some, Result, Ok, Err, is_err, refl, subst, arith}
use Rattle.std.proofs.lemmas.List.{append-nil}
use Rattle.hex.specs.Hex.{encode_lower}
use Rattle.dd_io.specs.Flow.{SinkView, Sends}
use Rattle.refusals.specs.declared.refusal.Refusal.TheVariants.{Clash, WrongPart, Corrupt, Missing, NotAStore, NotEmpty, Version, Unpinned, WrongSize}
use Rattle.refusals.specs.declared.refusal.Refusal.{Refusal}
use Rattle.refusals.specs.declared.refusal.Difference.TheVariants.{Byte}
use Rattle.refusals.specs.declared.refusal.PartKind.{PartKind}
use Rattle.inspection.specs.declared.damage.Damage.TheVariants.{Copy}
use Rattle.reply_text.specs.declared.ending.Ending.TheVariants.{Refused}
use Rattle.reply_text.specs.Text.{damage_line, checked_line, fault_line, refused_line, ending_text, refusal_text, difference_text, part_text}

-- pieces of which one has a line of its own, put together either way
byte_pieces : (front key space word place offered held end : List ℕ)
    → front ++ (key ++ ((space ++ word) ++ (place ++ (space ++ (offered ++ (space ++ (held ++ (end ++ []))))))))
    ≡ (((front ++ key) ++ space) ++ (((((word ++ place) ++ space) ++ offered) ++ space) ++ held)) ++ end
byte_pieces front key space word place offered held end = simp (append_assoc, append-nil)

-- the line of a `Clash` in a byte, of its pieces
pub clash_byte_text : (key : List ℕ) (place offered held : ℕ) (key_digits place_text offered_digits held_digits : List ℕ) → key_digits ≡ encode_lower key →
    place_text ≡ decimal place → offered_digits ≡ encode_lower (offered ∷ []) → held_digits ≡ encode_lower (held ∷ [])
    → codes "fault 7 clash " ++ (key_digits ++ (codes " byte " ++ (place_text ++ (codes " " ++ (offered_digits ++ (codes " " ++ (held_digits ++ (codes "\n" ++ []))))))))
    ≡ fault_line (Refused (Clash key (Byte place offered held)))
unfolding fault_line ending_text refusal_text
clash_byte_text key place offered held key_digits place_text offered_digits held_digits is_key is_place is_offered is_held =
    rw (is_key, is_place, is_offered, is_held) (byte_pieces (codes "fault 7 clash ") (encode_lower key) (codes " ") (codes "byte ") (decimal place) (encode_lower (offered ∷ []))
    (encode_lower (held ∷ [])) (codes "\n"))

-- the line of `WrongPart`, of its pieces
pub wrong_part_text : (part : PartKind) (word : List ℕ) → word ≡ part_text part
    → codes "fault 8 wrongpart " ++ (word ++ (codes "\n" ++ []))
    ≡ fault_line (Refused (WrongPart part))
unfolding fault_line ending_text refusal_text
wrong_part_text part word is_word = rw is_word (simp append_assoc)

-- the line of `Corrupt`, of its pieces
pub corrupt_text : (slot offset length : ℕ) (want got slot_text offset_text length_text want_digits got_digits : List ℕ) → slot_text ≡ decimal slot →
    offset_text ≡ decimal offset → length_text ≡ decimal length → want_digits ≡ encode_lower want → got_digits ≡ encode_lower got
    → codes "fault 13 corrupt " ++ (slot_text ++
    (codes " " ++ (offset_text ++ (codes " " ++ (length_text ++ (codes " " ++ (want_digits ++ (codes " " ++ (got_digits ++ (codes "\n" ++ []))))))))))
    ≡ fault_line (Refused (Corrupt slot offset length want got))
unfolding fault_line ending_text refusal_text
corrupt_text slot offset length want got slot_text offset_text length_text want_digits got_digits is_slot is_offset is_length is_want is_got =
    rw (is_slot, is_offset, is_length, is_want, is_got) (simp append_assoc)

-- the line of `Missing`, of its pieces
pub missing_text : (key key_digits : List ℕ) → key_digits ≡ encode_lower key
    → codes "fault 14 missing " ++ (key_digits ++ (codes "\n" ++ []))
    ≡ fault_line (Refused (Missing key))
unfolding fault_line ending_text refusal_text
missing_text key key_digits is_key = rw is_key (simp append_assoc)

-- the line of `NotAStore`, of its pieces
pub not_a_store_text : (gate : ℕ) (magic gate_digits magic_digits : List ℕ) → gate_digits ≡ encode_lower (gate ∷ []) → magic_digits ≡ encode_lower magic
    → codes "fault 16 notastore " ++ (gate_digits ++ (codes " " ++ (magic_digits ++ (codes "\n" ++ []))))
    ≡ fault_line (Refused (NotAStore gate magic))
unfolding fault_line ending_text refusal_text
not_a_store_text gate magic gate_digits magic_digits is_gate is_magic = rw (is_gate, is_magic) (simp append_assoc)

-- the line of `Version`, of its pieces
pub version_text : (n : ℕ) (n_text : List ℕ) → n_text ≡ decimal n
    → codes "fault 17 version " ++ (n_text ++ (codes "\n" ++ []))
    ≡ fault_line (Refused (Version n))
unfolding fault_line ending_text refusal_text
version_text n n_text is_n = rw is_n (simp append_assoc)

-- the line of `NotEmpty`, of its pieces
pub not_empty_text : (n : ℕ) (n_text : List ℕ) → n_text ≡ decimal n
    → codes "fault 23 notempty " ++ (n_text ++ (codes "\n" ++ []))
    ≡ fault_line (Refused (NotEmpty n))
unfolding fault_line ending_text refusal_text
not_empty_text n n_text is_n = rw is_n (simp append_assoc)

-- the line of `Unpinned`, of its pieces
pub unpinned_text : (key key_digits : List ℕ) → key_digits ≡ encode_lower key
    → codes "fault 19 unpinned " ++ (key_digits ++ (codes "\n" ++ []))
    ≡ fault_line (Refused (Unpinned key))
unfolding fault_line ending_text refusal_text
unpinned_text key key_digits is_key = rw is_key (simp append_assoc)

-- the line of `WrongSize`, of its pieces
pub wrong_size_text : (want got : ℕ) (want_text got_text : List ℕ) → want_text ≡ decimal want → got_text ≡ decimal got
    → codes "fault 21 wrongsize " ++ (want_text ++ (codes " " ++ (got_text ++ (codes "\n" ++ []))))
    ≡ fault_line (Refused (WrongSize want got))
unfolding fault_line ending_text refusal_text
wrong_size_text want got want_text got_text is_want is_got = rw (is_want, is_got) (simp append_assoc)

-- what was sent, by another name
pub sends_as : {T E : Type 0} (result : Result T E) (old new : SinkView) (text same : List ℕ) → text ≡ same → Sends text result old new → Sends same result old new
sends_as result old new text same is = subst (λ (t : List ℕ). Sends t result old new) is

-- the note of a refusal that was written whole
pub note_written : {T E : Type 0} (result : Result T E) (refusal : Refusal) (old new : SinkView) (bytes : List ℕ) → is_err result ≡ false →
    Sends (fault_line (Refused refusal)) result old new → old.written ≡ Some [] → new.written ≡ Some bytes → bytes ≡ fault_line (Refused refusal)
note_written (Ok x) refusal old new bytes done sends before after = cc (sends.ok.is [] before)
note_written (Err e) refusal old new bytes done sends before after = cc

-- it has a first word, and the space after it
pub note_length : (refusal : Refusal) → 6 ≤ length (fault_line (Refused refusal))
unfolding fault_line ending_text
note_length refusal = omega arith

-- it ends as the reply to a line does
pub note_tail : (refusal : Refusal) → codes "refused " ++ drop 6 (fault_line (Refused refusal)) ≡ refused_line refusal
unfolding fault_line ending_text refused_line
note_tail refusal = refl

-- the line of a copy, of its pieces
pub copy_text : (slot offset length : ℕ) (want got slot_text offset_text length_text want_digits got_digits : List ℕ) → slot_text ≡ decimal slot → offset_text ≡ decimal offset →
    length_text ≡ decimal length → want_digits ≡ encode_lower want → got_digits ≡ encode_lower got
    → codes "copy " ++ (slot_text ++ (codes " " ++
    (offset_text ++ (codes " " ++ (length_text ++ (codes " " ++ (want_digits ++ (codes " " ++ (got_digits ++ (codes "\n" ++ []))))))))))
    ≡ damage_line (Copy slot offset length want got)
unfolding damage_line
copy_text slot offset length want got slot_text offset_text length_text want_digits got_digits is_slot is_offset is_length is_want is_got =
    rw (is_slot, is_offset, is_length, is_want, is_got) (simp append_assoc)

-- the last line of `check`, of its pieces
pub checked_text : (cells copies bad : ℕ) (cells_text copies_text bad_text : List ℕ) → cells_text ≡ decimal cells → copies_text ≡ decimal copies → bad_text ≡ decimal bad
    → codes "checked cells " ++ (cells_text ++ (codes " copies " ++ (copies_text ++ (codes " bad " ++ (bad_text ++ (codes "\n" ++ []))))))
    ≡ checked_line cells copies bad
unfolding checked_line
checked_text cells copies bad cells_text copies_text bad_text is_cells is_copies is_bad = rw (is_cells, is_copies, is_bad) (simp append_assoc)
