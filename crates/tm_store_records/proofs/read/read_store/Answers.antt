use Rattle.tm_store_records.specs.Heads.{heads_of}
use Rattle.tm_store_records.proofs.Drafted.{told, has_machine, is_graph}
use Rattle.tm_store_records.proofs.read.read_store.Goals as goal

pub contents_of-requires-clause-machine : goal.contents_of-requires-clause-machine
contents_of-requires-clause-machine c =
    let heads = heads_of c.args.image.now.records in
    let draft = c.in_ok-draft.draft in
    let read = c.in_ok-draft.ensures in
    let tells = told draft heads read.machine read.snapshots read.nodes read.unread in
    has_machine draft heads c.args.number tells c.in_ok-key.field-0 c.in-None.is (c.in_ok-key.ensures heads)

pub contents_of-requires-clause-graph : goal.contents_of-requires-clause-graph
contents_of-requires-clause-graph c =
    let heads = heads_of c.args.image.now.records in
    let draft = c.in_ok-draft.draft in
    let read = c.in_ok-draft.ensures in
    let tells = told draft heads read.machine read.snapshots read.nodes read.unread in
    is_graph draft heads c.args.number tells c.in_ok-key.field-0 c.in-None.is (c.in_ok-key.ensures heads) c.records_are_ordered.ensures c.requires.number
