-- What holds of every session.
use Rattle.std.specs.Prelude.{◌≡◌, ◌≤◌, ◌+◌, true, false, [], length, None, IsSome}
use Rattle.std.specs.List.{AllByRecursion}
use Rattle.disk_format.specs.declared.numbers.TheConstants.{MOST_FILE}
use Rattle.container_meta.specs.declared.kind.Kind.TheVariants.{Leaf, Tree}
use Rattle.container_meta.specs.Segments.{Contents}
use Rattle.actor_parts.specs.declared.step.TheConstants.{MOST_TOGETHER}
use Rattle.actor_parts.specs.Segments.{AreStepSegments}
use Rattle.ingest_session.specs.declared.queue.TheConstants.{QUEUE, LONG_QUEUE}
use Rattle.ingest_session.specs.declared.line.TheConstants.{MOST_LINE}
use Rattle.ingest_session.specs.Finished.{first_of}
use Rattle.ingest_session.specs.Items.{fits}
use Rattle.ingest_session.specs.Stream.{IsUncut}
use Rattle.ingest_session.specs.State.{SessionState, HasItem, IsAhead, IsBuilding, IsClosed, IsSized, IsSpelled, IsWhole, ends_left, is_last, rest_of, turn_node}

-- a container that is set aside has data, a segment at least
abbrev pub IsAside : Contents → Type 0
IsAside c = (c.kind ≡ Leaf) × (1 ≤ length c.segments)

pub record IsSession (s : SessionState) : Type 0 where
  pub data_kind : s.leaves.kind ≡ Leaf
  pub tree_kind : s.nodes.kind ≡ Tree
  pub few : s.count ≤ MOST_FILE
  pub hand : s.hand.whole ≡ false
  pub uncut : IsUncut s.hand
  pub least : QUEUE ≤ s.most
  pub limit : s.most ≤ LONG_QUEUE
  pub room : s.ended ≡ false → length s.queue + s.unseen ≤ s.most
  pub at_end : length s.queue + s.unseen ≤ s.most + 1
  pub sized : AllByRecursion IsSized s.queue
  pub ahead : IsAhead s.ahead s.queue
  pub spelled : IsSpelled s.spelled (first_of s.line)
  pub building : IsBuilding s
  pub whole : IsWhole s.top (is_last s.ended (rest_of s))
  pub closed : is_last s.ended s.queue ≡ true → IsSome s.top
  pub next : s.ahead ≡ None → s.built.finished ≡ []
  pub line : length s.line + length s.built.finished + ends_left s.top s.built ≤ MOST_LINE
  pub nodes_right : AreStepSegments Tree s.nodes.segments
  pub aside : AllByRecursion IsAside s.aside
  pub together : length s.aside ≤ MOST_TOGETHER
  pub waits : s.waits ≡ true → HasItem (turn_node s) s.spelled s.ahead × IsClosed s
  pub full : s.waits ≡ true → fits s ≡ false
