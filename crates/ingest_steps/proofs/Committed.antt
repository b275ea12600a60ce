-- Why a commit was refused, from one function to the next.
use Rattle.ingest_steps.proofs.Prelude.{List, ℕ, Root, Part, Refusal, Memory, Numbers, DiskWrite, Tables, IsUncommitted, IsCommitRefusal}

-- by what the actor is at, by the name or by the root
pub uncommitted_refused : (part : Part) (t : Tables) (name : List ℕ) (root : Root) (refusal : Refusal) → IsUncommitted part t name root refusal
    → IsCommitRefusal part t name root refusal
uncommitted_refused part t name root Memory is = tt
uncommitted_refused part t name root Numbers is = absurd is.1
uncommitted_refused part t name root DiskWrite is = absurd is.1
uncommitted_refused part t name root refusal is = is
