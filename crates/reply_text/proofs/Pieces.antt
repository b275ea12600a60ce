-- Pieces that are written one after another.
use Rattle.std.proofs.Common.{◌≡◌, ℕ, ◌+◌, ◌<◌, List, [], ◌∷◌, ◌++◌, length, get_or, take, drop, Option, Some, Result, Ok, Err, refl, sym, ◌∙◌, ap, append_assoc, append-nil, suc, arith, length-append}
use Rattle.std.specs.List.{flat_map}
use Rattle.std.specs.Result.{IsErrAnd}
use Rattle.std.proofs.lemmas.Grind.{flat_map-append}
use Rattle.std.proofs.lemmas.List.{take_more, take-append-le}
use Rattle.std.proofs.lemmas.List.Concat.{flat_map-cons}
use Rattle.std.proofs.Math.Seq.{split_at, take-append-add}
use Rattle.base_model.specs.Known.{Appended}
use Rattle.dd_io.specs.Flow.{SinkView, AppendedPart, Sends}

-- one more piece
pub pieces_more : {X : Type 0} (f : X → List ℕ) (pieces : List X) (i : ℕ) (d : X) → i < length pieces
    → flat_map f (take (i + 1) pieces) ≡ flat_map f (take i pieces) ++ f (get_or pieces i d)
pieces_more f pieces i d below =
    ap (flat_map f) (take_more pieces i d below) ∙ flat_map-append f (take i pieces) (get_or pieces i d ∷ []) ∙ ap (λ (t : List ℕ). flat_map f (take i pieces) ++ t)
    (flat_map-cons f (get_or pieces i d) [] ∙ append-nil _)

-- the pieces before one, it, and those after it
pub pieces_split : {X : Type 0} (f : X → List ℕ) (pieces : List X) (i : ℕ) (d : X) → i < length pieces
    → flat_map f pieces ≡ flat_map f (take i pieces) ++ (f (get_or pieces i d) ++ flat_map f (drop (suc i) pieces))
pieces_split f pieces i d below =
    ap (flat_map f) (split_at pieces i d below) ∙ flat_map-append f (take i pieces) (get_or pieces i d ∷ drop (suc i) pieces)
    ∙ ap (λ (t : List ℕ). flat_map f (take i pieces) ++ t) (flat_map-cons f (get_or pieces i d) (drop (suc i) pieces))

-- nothing was written
appended_none : (before : Option (List ℕ)) → Appended before before []
appended_none before = record { is = λ old told. told ∙ ap Some (sym (append-nil old)) }

-- one piece was written after others
appended_more : (before mid now : Option (List ℕ)) (front piece : List ℕ) → Appended before mid front → Appended mid now piece → Appended before now (front ++ piece)
appended_more before mid now front piece first second = record { is = λ old told. second.is (old ++ front) (first.is old told) ∙ ap Some (append_assoc old front piece) }

-- a first part of one more piece is one of the whole
part_of_more : (before mid now : Option (List ℕ)) (front piece rest : List ℕ) → Appended before mid front → AppendedPart mid now piece →
    AppendedPart before now (front ++ (piece ++ rest))
part_of_more before mid now front piece rest first part =
    let taken : take (length front + part.count) (front ++ (piece ++ rest)) ≡ front ++ take part.count piece =
    take-append-add front (piece ++ rest) part.count ∙ ap (λ (t : List ℕ). front ++ t) (take-append-le part.count piece rest part.fits) in
    record {
      count = length front + part.count;
      fits = simp length-append (omega (arith, part.fits));
      is = record {
        is = λ old told. part.is.is (old ++ front) (first.is old told)
            ∙ ap Some (append_assoc old front (take part.count piece) ∙ ap (λ (t : List ℕ). old ++ t) (sym taken));
      };
    }

-- Pieces that were sent, one after another.
module _ {T E : Type 0} (x : T) where
  pub sends_none : (v : SinkView) → Sends {T = T} {E = E} [] (Ok x) v v
  sends_none v = record { ok = appended_none v.written; err = tt; cause = record { later = omega arith; done = refl; failed = tt } }

  module _ (old mid new : SinkView) (front piece : List ℕ) (first : Sends {T = T} {E = E} front (Ok x) old mid) where
    pub sends_more : {U : Type 0} (y : U) → Sends {T = U} {E = E} piece (Ok y) mid new → Sends {T = T} {E = E} (front ++ piece) (Ok x) old new
    sends_more y second = record {
      ok = appended_more old.written mid.written new.written front piece first.ok second.ok;
      err = tt;
      cause = record { later = omega (arith, first.cause.later, second.cause.later); done = second.cause.done ∙ first.cause.done; failed = tt };
    }

    -- the next one failed
    pub sends_stop : {U : Type 0} (rest : List ℕ) (e f : E) → Sends {T = U} {E = E} piece (Err e) mid new → Sends {T = T} {E = E} (front ++ (piece ++ rest)) (Err f) old new
    sends_stop rest e f second = record {
      ok = tt;
      err = part_of_more old.written mid.written new.written front piece rest first.ok second.err;
      cause = record { later = omega (arith, first.cause.later, second.cause.later); done = tt; failed = omega (arith, first.cause.done, second.cause.failed) };
    }

-- a `?` passes the error on
pub sends_passed : {T U E : Type 0} (result : Result T E) (P : E → Type 0) (text : List ℕ) (e : E) (old new : SinkView) → IsErrAnd result P →
    Sends {T = U} {E = E} text (Err e) old new → Sends text result old new
sends_passed (Ok x) P text e old new is sends = absurd is
sends_passed (Err f) P text e old new is sends = record { ok = tt; err = sends.err; cause = record { later = sends.cause.later; done = tt; failed = sends.cause.failed } }
