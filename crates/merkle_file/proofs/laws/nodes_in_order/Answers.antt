use Rattle.merkle_file.proofs.InOrder.{nodes_come_in_order}
use Rattle.merkle_file.proofs.ChildrenFirst.{children_come_first}
use Rattle.merkle_file.proofs.laws.nodes_in_order.Goals as goal

pub returns-clause-finished : goal.returns-clause-finished
returns-clause-finished c = nodes_come_in_order

pub returns-clause-children : goal.returns-clause-children
returns-clause-children c = children_come_first
