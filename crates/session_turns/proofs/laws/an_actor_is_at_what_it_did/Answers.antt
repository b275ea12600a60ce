use Rattle.session_turns.proofs.KindsFollow.{all_others_stay, giving_up_is_done, kinds_follow}
use Rattle.session_turns.proofs.laws.an_actor_is_at_what_it_did.Goals as goal

pub returns-clause-others : goal.returns-clause-others
returns-clause-others g c = all_others_stay _ g.C.HasState.state

pub returns-clause-own : goal.returns-clause-own
returns-clause-own g c = kinds_follow _ g.C.HasState.state

pub returns-clause-given_up : goal.returns-clause-given_up
returns-clause-given_up g c = giving_up_is_done _ g.C.HasState.state
