use Rattle.std.proofs.Common.{◌≡◌, ℕ, Some, None, List, length, slice_get, refl, sym, ap, ◌∙◌, rules, subst}
use Rattle.std.proofs.lemmas.Option.{slice_get_read}
use Rattle.std.proofs.lemmas.Result.{on_ok_weaker}
use Rattle.tm_tree.specs.declared.node.Child.{Child}
use Rattle.tm_tree.specs.declared.node.NodeRow.{NodeRow}
use Rattle.tm_graph.specs.Nodes.{entries_of}
use Rattle.tm_store_records.specs.Located.{AreEntriesAt}
use Rattle.tm_store_records.proofs.Walking.{locations_of}
use Rattle.tm_store_records.proofs.Passing.{pass_nowhere, pass_first, pass_last, pass_entry}
use Rattle.tm_store_records.proofs.locations.Locations.pass.Goals as goal

pub returns-in-Some : goal.returns-in-Some
returns-in-Some c =
    let g = c.args.nodes.now in
    let e = c.index-nodes-place.result in
    let is : slice_get g c.args.place ≡ Some e = slice_get_read g (length g) c.args.place e refl c.requires.place c.index-nodes-place.is in
    let children = c.children_of.result.now in
    let same : children ≡ entries_of e.1 = c.children_of.ensures ∙ ap (λ (x : ℕ × NodeRow). entries_of x.1) c.entry.view_is in
    on_ok_weaker c.pass_entries.result
    (λ told roots tell. pass_last g roots c.args.place e c.requires.sorted is c.pass_entries.new.self (length children) (ap (λ (xs : List Child). length xs) same)
    (told g roots c.args.place
    (subst (λ k. AreEntriesAt g c.args.place k children) (sym (ap (λ (x : ℕ × NodeRow). x.0) c.entry.view_is))
    (λ entry child named. pass_entry g roots c.args.place e c.requires.sorted is c.requires.rise entry child (subst (λ (xs : List Child). slice_get xs entry ≡ Some child) same named)))
    (pass_first g roots c.args.place e c.requires.sorted is c.args.self.now tell)))
    c.pass_entries.ensures

pub returns-in-None : goal.returns-in-None
returns-in-None c = λ roots tell.
    let g = c.args.nodes.now in
    let e = c.index-nodes-place.result in
    let is : slice_get g c.args.place ≡ Some e = slice_get_read g (length g) c.args.place e refl c.requires.place c.index-nodes-place.is in
    let none : locations_of c.args.self.now e.0 ≡ None = search rules in
    pass_nowhere g roots c.args.place e c.requires.sorted is c.args.self.now none tell
