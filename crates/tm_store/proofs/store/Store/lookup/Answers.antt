use Rattle.std.proofs.Common.{◌≡◌, Ok, Err, [], sym, subst, ap, ◌∙◌}
use Rattle.tm_graph.specs.declared.walk.Walk.TheVariants.{NotFound, NotFolder}
use Rattle.tm_graph.specs.Nodes.{IsGraph}
use Rattle.tm_graph.specs.Walks.{down}
use Rattle.tm_store_records.specs.Held.{Held}
use Rattle.tm_store.proofs.FindLemmas.{looks_nowhere, looks_at, node_there, held_number, looks_missing, looks_blocked}
use Rattle.tm_store.proofs.store.Store.lookup.Goals as goal

pub returns-in_default-clause-looks : goal.returns-in_default-clause-looks
returns-in_default-clause-looks c = λ bytes. looks_nowhere c.args.self.now bytes c.args.machine.now c.args.at c.args.volume.now c.args.path.now (sym c.in_default.ensures)

pub returns-in-Ok-clause-looks : goal.returns-in-Ok-clause-looks
returns-in-Ok-clause-looks c = λ bytes.
    let h : Held = c.args.self.now in
    let graph = subst (λ (k : Held). IsGraph k.nodes) c.self.view_is c.len.ensures.graph in
    let goes = subst (λ (k : Held). down k.nodes c.in-Some.snapshot.now.root c.args.path.now ≡ Ok c.in-Ok.node) c.self.view_is (sym c.in-Ok.ensures) in
    looks_at h bytes c.rows_stand.ensures graph c.requires c.args.machine.now c.args.at c.args.volume.now c.in-Some.snapshot.now (sym c.in-Some.ensures) c.args.path.now c.in-Ok.node goes

pub returns-in-Ok-clause-there : goal.returns-in-Ok-clause-there
returns-in-Ok-clause-there c =
    let h : Held = c.args.self.now in
    let graph = subst (λ (k : Held). IsGraph k.nodes) c.self.view_is c.len.ensures.graph in
    let goes = subst (λ (k : Held). down k.nodes c.in-Some.snapshot.now.root c.args.path.now ≡ Ok c.in-Ok.node) c.self.view_is (sym c.in-Ok.ensures) in
    node_there h (λ _. []) c.rows_stand.ensures graph c.requires c.args.machine.now c.args.at c.args.volume.now c.in-Some.snapshot.now (sym c.in-Some.ensures) c.args.path.now c.in-Ok.node goes

pub returns-in-Ok-clause-number : goal.returns-in-Ok-clause-number
returns-in-Ok-clause-number c =
    let h : Held = c.args.self.now in
    let graph = subst (λ (k : Held). IsGraph k.nodes) c.self.view_is c.len.ensures.graph in
    let goes = subst (λ (k : Held). down k.nodes c.in-Some.snapshot.now.root c.args.path.now ≡ Ok c.in-Ok.node) c.self.view_is (sym c.in-Ok.ensures) in
    held_number h (λ _. []) c.rows_stand.ensures graph c.requires c.args.machine.now c.args.at c.args.volume.now c.in-Some.snapshot.now (sym c.in-Some.ensures) c.args.path.now c.in-Ok.node goes

pub returns-in-Err-NotFound-clause-looks : goal.returns-in-Err-NotFound-clause-looks
returns-in-Err-NotFound-clause-looks c = λ bytes.
    let h : Held = c.args.self.now in
    let graph = subst (λ (k : Held). IsGraph k.nodes) c.self.view_is c.len.ensures.graph in
    let ends = subst (λ (k : Held). down k.nodes c.in-Some.snapshot.now.root c.args.path.now ≡ Err NotFound) c.self.view_is (sym c.in-Err-NotFound.ensures ∙ ap (λ w. Err w) c.in-Err-NotFound.field-0-is) in
    looks_missing h bytes c.rows_stand.ensures graph c.requires c.args.machine.now c.args.at c.args.volume.now c.in-Some.snapshot.now (sym c.in-Some.ensures) c.args.path.now ends

pub returns-in-Err-NotFolder-clause-looks : goal.returns-in-Err-NotFolder-clause-looks
returns-in-Err-NotFolder-clause-looks c = λ bytes.
    let h : Held = c.args.self.now in
    let graph = subst (λ (k : Held). IsGraph k.nodes) c.self.view_is c.len.ensures.graph in
    let ends = subst (λ (k : Held). down k.nodes c.in-Some.snapshot.now.root c.args.path.now ≡ Err NotFolder) c.self.view_is (sym c.in-Err-NotFolder.ensures ∙ ap (λ w. Err w) c.in-Err-NotFolder.field-0-is) in
    looks_blocked h bytes c.rows_stand.ensures graph c.requires c.args.machine.now c.args.at c.args.volume.now c.in-Some.snapshot.now (sym c.in-Some.ensures) c.args.path.now ends
