use Rattle.std.proofs.Common.{◌∙◌, sym, subst}
use Rattle.tm_graph.specs.Nodes.{Nodes, IsGraph}
use Rattle.tm_unique.specs.Counts.{IsSnapshot}
use Rattle.tm_unique.proofs.OneFolder.{graph, made, snapshot}
use Rattle.tm_unique.proofs.tests.counts.Goals as goal

pub from_nodes-requires : goal.from_nodes-requires
from_nodes-requires g c =
    subst IsGraph (sym (c.of.ensures
    ∙ made c.in_ok-attrs.field-0 c.in_ok-attrs-2.field-0 c.in_ok-name.name c.args.snapshots c.requires.some c.requires.few _ _ _ _ c.in_ok-rows.ensures.items c.file-inner.ensures c.folder-outer.ensures (c.of-entries.ensures ∙ c.in_ok-vec.ensures.items)))
    (graph c.in_ok-attrs.field-0 c.in_ok-attrs-2.field-0 c.in_ok-name.name c.args.snapshots c.requires.some c.requires.few)

pub unique_bytes-requires-clause-snapshot : goal.unique_bytes-requires-clause-snapshot
unique_bytes-requires-clause-snapshot g c =
    subst (λ (rows : Nodes). IsSnapshot rows 2) (sym (c.in_ok-graph.ensures ∙ c.of.ensures
    ∙ made c.in_ok-attrs.field-0 c.in_ok-attrs-2.field-0 c.in_ok-name.name c.args.snapshots c.requires.some c.requires.few _ _ _ _ c.in_ok-rows.ensures.items c.file-inner.ensures c.folder-outer.ensures (c.of-entries.ensures ∙ c.in_ok-vec.ensures.items)))
    (snapshot c.in_ok-attrs.field-0 c.in_ok-attrs-2.field-0 c.in_ok-name.name c.args.snapshots c.requires.some c.requires.few)

pub unique_bytes-requires-2-clause-snapshot : goal.unique_bytes-requires-2-clause-snapshot
unique_bytes-requires-2-clause-snapshot g c =
    subst (λ (rows : Nodes). IsSnapshot rows 2) (sym (c.in_ok-graph.ensures ∙ c.of.ensures
    ∙ made c.in_ok-attrs.field-0 c.in_ok-attrs-2.field-0 c.in_ok-name.name c.args.snapshots c.requires.some c.requires.few _ _ _ _ c.in_ok-rows.ensures.items c.file-inner.ensures c.folder-outer.ensures (c.of-entries.ensures ∙ c.in_ok-vec.ensures.items)))
    (snapshot c.in_ok-attrs.field-0 c.in_ok-attrs-2.field-0 c.in_ok-name.name c.args.snapshots c.requires.some c.requires.few)
