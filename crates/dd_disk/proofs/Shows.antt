-- How what reads show is put together.
use Rattle.std.proofs.Common.{◌≡◌, ℕ, ◌≤◌, List, [], ◌∷◌, ◌++◌, length, Some, sym, ◌∙◌, ap}
use Rattle.std.specs.List.{AllByRecursion}
use Rattle.base_model.specs.Bytes.{range}
use Rattle.dd_disk.specs.View.{DiskView, IsLater, OnlyReads}
use Rattle.dd_disk.specs.Shows.{HasPart, Shows}

both_all : {A : Type 0} (P : A → Type 0) (xs ys : List A) → AllByRecursion P xs → AllByRecursion P ys → AllByRecursion P (xs ++ ys)
both_all P [] ys first second = second
both_all P (x ∷ xs) ys first second = (first.0, both_all P xs ys first.1 second)

front_all : {A : Type 0} (P : A → Type 0) (xs ys : List A) → AllByRecursion P (xs ++ ys) → AllByRecursion P xs
front_all P [] ys all = tt
front_all P (x ∷ xs) ys all = (all.0, front_all P xs ys all.1)

back_all : {A : Type 0} (P : A → Type 0) (xs ys : List A) → AllByRecursion P (xs ++ ys) → AllByRecursion P ys
back_all P [] ys all = all
back_all P (x ∷ xs) ys all = back_all P xs ys all.1

map_all : {A : Type 0} (P Q : A → Type 0) (xs : List A) → ((x : A) → P x → Q x) → AllByRecursion P xs → AllByRecursion Q xs
map_all P Q [] each all = tt
map_all P Q (x ∷ xs) each all = (each x all.0, map_all P Q xs each all.1)

-- what holds of each image of the disk's size
pub always : (old new : DiskView) (P : List ℕ → Type 0) → ((image : List ℕ) → length image ≡ old.size → P image) → Shows old new P
always old new P each = record { parts = []; returned = tt; known = λ image is. tt; shows = λ image sized has. each image sized }

-- what follows from what is shown
pub weaker : (old new : DiskView) {P Q : List ℕ → Type 0} → ((image : List ℕ) → length image ≡ old.size → P image → Q image) → Shows old new P → Shows old new Q
weaker old new each shown = record {
  parts = shown.parts;
  returned = shown.returned;
  known = shown.known;
  shows = λ image sized has. each image sized (shown.shows image sized has);
}

-- of a disk that tells its content it is shown of the content
pub shown_content : (old new : DiskView) (P : List ℕ → Type 0) (image : List ℕ) → Shows old new P → old.content ≡ Some image → P image
shown_content old new P image shown known = shown.shows image (old.sized image known) (shown.known image known)

-- two things that the same reads show
pub also : (old new : DiskView) {P Q : List ℕ → Type 0} → Shows old new P → Shows old new Q → Shows old new (λ image. P image × Q image)
also old new first second = record {
  parts = first.parts ++ second.parts;
  returned = both_all (λ part. new.read_returned old.clock part.at part.bytes) first.parts second.parts first.returned second.returned;
  known = λ image is. both_all (HasPart image) first.parts second.parts (first.known image is) (second.known image is);
  shows = λ image sized has. (
    first.shows image sized (front_all (HasPart image) first.parts second.parts has),
    second.shows image sized
        (back_all (HasPart image) first.parts second.parts has),
  );
}

-- what was shown stays shown
pub until : (old mid new : DiskView) {P : List ℕ → Type 0} → Shows old mid P → old.clock ≤ mid.clock → IsLater mid new → Shows old new P
until old mid new shown before later = record {
  parts = shown.parts;
  returned = map_all (λ part. mid.read_returned old.clock part.at part.bytes) (λ part. new.read_returned old.clock part.at part.bytes) shown.parts
      (λ part. later.returned old.clock part.at part.bytes before) shown.returned;
  known = shown.known;
  shows = shown.shows;
}

-- what is shown after calls that only read
pub since : (old mid new : DiskView) {P : List ℕ → Type 0} → OnlyReads old mid → Shows mid new P → Shows old new P
since old mid new reads shown = record {
  parts = shown.parts;
  returned = map_all (λ part. new.read_returned mid.clock part.at part.bytes) (λ part. new.read_returned old.clock part.at part.bytes) shown.parts
      (λ part. new.returned_earlier old.clock mid.clock part.at part.bytes reads.later.clock_is) shown.returned;
  known = λ image is. shown.known image (reads.content_is ∙ is);
  shows = λ image sized has. shown.shows image (sized ∙ sym reads.later.size_is) has;
}

-- what is shown before, and after calls that only read
pub both : (old mid new : DiskView) {P Q : List ℕ → Type 0} → Shows old mid P → OnlyReads old mid → Shows mid new Q → IsLater mid new → Shows old new (λ image. P image × Q image)
both old mid new first reads second later = also old new (until old mid new first reads.later.clock_is later) (since old mid new reads second)

-- what one read returned
pub shows_read : (old new : DiskView) (at count : ℕ) (bytes : List ℕ) → length bytes ≡ count → new.read_returned old.clock at bytes →
    ((image : List ℕ) → old.content ≡ Some image → bytes ≡ range at count image)
    → Shows old new (λ image. range at count image ≡ bytes)
shows_read old new at count bytes long returned known = record {
  parts = record { at = at; bytes = bytes } ∷ [];
  returned = (returned, tt);
  known = λ image is. (ap (λ n. range at n image) long ∙ sym (known image is), tt);
  shows = λ image sized has. ap (λ n. range at n image) (sym long) ∙ has.0;
}
