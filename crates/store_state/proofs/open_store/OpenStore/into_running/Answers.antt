use Rattle.store_model.proofs.Lookups.{partial_of}
use Rattle.store_state.proofs.Serving.{index_serves}
use Rattle.store_state.proofs.open_store.OpenStore.into_running.Goals as goal

pub returns-clause-serves : goal.returns-clause-serves
returns-clause-serves c = λ size store represents valid. index_serves size store c.args.self.containers.index valid
    (partial_of store.held c.args.self.containers.index represents.containers.index)
