use Rattle.segmenter.proofs.SegmentLemmas.{segments_of-laws, segments_of-none, segments_of-first}
use Rattle.segmenter.proofs.LengthLemmas.{short_is_one, have_right_lengths, lengths_add_up, are_few}
use Rattle.segmenter.proofs.whole.segmentation_laws.Goals as goal

pub returns-clause-laws : goal.returns-clause-laws
returns-clause-laws c = segments_of-laws

pub returns-clause-none : goal.returns-clause-none
returns-clause-none c = segments_of-none

pub returns-clause-first : goal.returns-clause-first
returns-clause-first c = segments_of-first

pub returns-clause-one : goal.returns-clause-one
returns-clause-one c = short_is_one

pub returns-clause-each : goal.returns-clause-each
returns-clause-each c = have_right_lengths

pub returns-clause-sum : goal.returns-clause-sum
returns-clause-sum c = lengths_add_up

pub returns-clause-few : goal.returns-clause-few
returns-clause-few c = are_few
