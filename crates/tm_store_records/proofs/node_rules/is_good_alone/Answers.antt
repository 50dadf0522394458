use Rattle.std.proofs.Common.{rules, ◌&&◌, is_some, nat_lt, ◌∙◌}
use Rattle.std.specs.List.{list_all}
use Rattle.tm_graph.specs.Nodes.{node, entries_of}
use Rattle.tm_store_records.proofs.Lowering.{lower_both}
use Rattle.tm_store_records.proofs.node_rules.is_good_alone.Goals as goal

pub returns-then-row-links : goal.returns-then-row-links
returns-then-row-links c = λ roots counted.
    let g = c.args.nodes.now in
    let e = c.args.entry.now in
    let lower = lower_both g e.0 (entries_of e.1) c.are_lower.result
    (c.are_lower.ensures ∙ (λ i. list_all (λ child. nat_lt child.node (c.id.view_is i) && is_some (node g child.node)) (c.children_of.ensures i))) in (
      λ yes. record {
        few = search rules;
        least = search rules;
        most = search rules;
        label_least = search rules;
        label_most = search rules;
        children = lower.0 yes;
        linked = search rules;
        counted = search rules;
      },
      λ good. lower.1 good.children,
    )
