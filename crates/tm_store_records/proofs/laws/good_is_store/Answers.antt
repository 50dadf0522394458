use Rattle.std.proofs.Common.{refl}
use Rattle.tm_store_records.specs.Found.{nodes_in, snapshots_in, snapshot_key, node_key}
use Rattle.tm_store_records.proofs.Noding.{nodes_sorted, nodes_rise, nodes_short}
use Rattle.tm_store_records.proofs.Linking.{store_is}
use Rattle.tm_store_records.proofs.laws.good_is_store.Goals as goal

pub returns : goal.returns
returns c = λ heads number most sorted good. store_is (nodes_in heads) (snapshots_in heads) number (nodes_sorted heads sorted)
    (λ place e is. (good (node_key e.0)).node_rules place e is refl)
    (λ place s is. (good (snapshot_key s.number)).snapshot place s is refl)
    (nodes_rise c.spellings_are_found.ensures.nodes heads) most (nodes_short c.spellings_are_found.ensures.nodes heads)
