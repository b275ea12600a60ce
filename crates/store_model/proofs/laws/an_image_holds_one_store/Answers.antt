use Rattle.store_model.proofs.Once.{store_once}
use Rattle.store_model.proofs.SameFiles.{files_agree, standing_agrees}
use Rattle.store_model.proofs.laws.an_image_holds_one_store.Goals as goal

pub returns-clause-store : goal.returns-clause-store
returns-clause-store c = store_once

pub returns-clause-files : goal.returns-clause-files
returns-clause-files c = files_agree

pub returns-clause-last : goal.returns-clause-last
returns-clause-last c = standing_agrees
