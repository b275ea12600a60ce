use Rattle.store_core.proofs.Prelude.{ap, step_value}
use Rattle.store_core.proofs.Making.{made_of, made_stat}
use Rattle.store_core.proofs.running.Core.make.Goals as goal

pub returns-in-Begin-clause-made : goal.returns-in-Begin-clause-made
returns-in-Begin-clause-made g c = λ stop count. made_of _ _ (ap step_value c.in-Begin.is) _ _ _ _ _ (c.begin.ensures.made c.args.buf.now stop count)

pub returns-in-Claim-clause-made : goal.returns-in-Claim-clause-made
returns-in-Claim-clause-made g c = λ stop count. made_of _ _ (ap step_value c.in-Claim.is) _ _ _ _ _ (c.claim.ensures.made stop count)

pub returns-in-Seal-clause-made : goal.returns-in-Seal-clause-made
returns-in-Seal-clause-made g c = λ stop count. made_of _ _ (ap step_value c.in-Seal.is) _ _ _ _ _ (c.seal.ensures.made c.seal.new.buf stop count)

pub returns-in-Commit-clause-made : goal.returns-in-Commit-clause-made
returns-in-Commit-clause-made g c = λ stop count. made_of _ _ (ap step_value c.in-Commit.is) _ _ _ _ _ (c.commit.ensures.made c.args.buf.now stop count)

pub returns-in-Abort-clause-made : goal.returns-in-Abort-clause-made
returns-in-Abort-clause-made g c = λ stop count. made_of _ _ (ap step_value c.in-Abort.is) _ _ _ _ _ (c.abort.ensures.made c.args.buf.now stop count)

pub returns-in-OpenRead-clause-made : goal.returns-in-OpenRead-clause-made
returns-in-OpenRead-clause-made g c = λ stop count. made_of _ _ (ap step_value c.in-OpenRead.is) _ _ _ _ _ (c.open_read.ensures.made c.args.buf.now stop count)

pub returns-in-ReadNext-clause-made : goal.returns-in-ReadNext-clause-made
returns-in-ReadNext-clause-made g c = λ stop count. made_of _ _ (ap step_value c.in-ReadNext.is) _ _ _ _ _ (c.read_next.ensures.made stop count)

pub returns-in-EndRead-clause-made : goal.returns-in-EndRead-clause-made
returns-in-EndRead-clause-made g c = λ stop count. made_of _ _ (ap step_value c.in-EndRead.is) _ _ _ _ _ (c.end_read.ensures.made c.args.buf.now stop count)

pub returns-in-Delete-clause-made : goal.returns-in-Delete-clause-made
returns-in-Delete-clause-made g c = λ stop count. made_of _ _ (ap step_value c.in-Delete.is) _ _ _ _ _ (c.delete.ensures.made c.args.buf.now stop count)

pub returns-in-List-clause-made : goal.returns-in-List-clause-made
returns-in-List-clause-made g c = λ stop count. made_of _ _ (ap step_value c.in-List.is) _ _ _ _ _ (c.list.ensures.made c.args.buf.now stop count)

pub returns-in-GcStart-clause-made : goal.returns-in-GcStart-clause-made
returns-in-GcStart-clause-made g c = λ stop count. made_of _ _ (ap step_value c.in-GcStart.is) _ _ _ _ _ (c.gc_start.ensures.made c.args.buf.now stop count)

pub returns-in-GcStep-clause-made : goal.returns-in-GcStep-clause-made
returns-in-GcStep-clause-made g c = λ stop count. made_of _ _ (ap step_value c.in-GcStep.is) _ _ _ _ _ (c.gc_step.ensures.made stop count)

pub returns-in-Stat-clause-made : goal.returns-in-Stat-clause-made
returns-in-Stat-clause-made g c = λ stop count. made_stat _ (ap step_value c.in-Stat.is) _ _ _ _ stop count c.stat.ensures

pub returns-in-Unique-clause-made : goal.returns-in-Unique-clause-made
returns-in-Unique-clause-made g c = λ stop count. made_of _ _ (ap step_value c.in-Unique.is) _ _ _ _ _ (c.unique.ensures.made stop count)
