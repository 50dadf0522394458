use Rattle.tm_graph.proofs.PlaceOrder.{rows_in_order}
use Rattle.tm_graph.proofs.PlaceAt.{descends, rows_at}
use Rattle.tm_graph.proofs.laws.rows_stand.Goals as goal

pub returns : goal.returns
returns c = λ v g n is. let down = descends g is in (rows_in_order v g down n, rows_at g down v n)
