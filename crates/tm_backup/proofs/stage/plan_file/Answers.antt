use Rattle.std.proofs.Common.{◌≡◌, None, Some, Err, sym, ap, ◌∙◌, refl, arith}
use Rattle.std.proofs.lemmas.Result.{err_from_is_err_and}
use Rattle.tm_world.specs.declared.bytes.Blob.{Blob}
use Rattle.tm_graph.specs.Nodes.{Nodes}
use Rattle.tm_tree.specs.Trees.{IsTree}
use Rattle.tm_tree.proofs.ViewsKept.{view_kept}
use Rattle.tm_volume.specs.Seen.{tree_on}
use Rattle.tm_copy.specs.Keeping.{kept_file}
use Rattle.tm_backup.specs.Steps.{store_bytes}
use Rattle.tm_backup.specs.Taking.{view_on}
use Rattle.tm_backup.proofs.Planning.{file_of, file_small, kept_blocks, kept_plan, new_blocks, new_plan}
use Rattle.tm_backup.proofs.Staging.{stages_err}
use Rattle.tm_backup.proofs.Stepping.{ran_none}
use Rattle.tm_backup.proofs.stage.plan_file.Goals as goal

pub stage_file-requires-clause-file : goal.stage_file-requires-clause-file
stage_file-requires-clause-file g c = λ bytes. file_of c.args.volume.now c.args.place.now c.args.attrs c.args.stamp c.args.size bytes (c.requires.file bytes)

pub stage_file-requires-clause-small : goal.stage_file-requires-clause-small
stage_file-requires-clause-small g c = file_small c.args.volume.now c.args.place.now c.args.attrs c.args.stamp c.args.size c.items_keep_bounds.ensures.bounds c.requires.may.kept c.requires.file

pub returns-in-Some-clause-ran : goal.returns-in-Some-clause-ran
returns-in-Some-clause-ran g c = ran_none g.W.World.told c.args.volume.now c.args.store.now (g.W.World.log c.args.world.now)

pub returns-in_err-blob-in-None-clause-stages : goal.returns-in_err-blob-in-None-clause-stages
returns-in_err-blob-in-None-clause-stages g c = λ root files bytes suits.
    let v = c.args.volume.now in
    let s = c.args.store.now in
    let tree : IsTree (view_on v bytes) = view_kept v.fixed (tree_on v bytes) (c.items_keep_bounds.ensures.tree v bytes c.requires.may.kept) in
    let none : kept_file s.nodes c.args.base c.args.stamp ≡ None = ap (λ (n : Nodes). kept_file n c.args.base c.args.stamp) (sym c.graph.ensures) ∙ sym c.in-None.ensures in
    let is = new_blocks g.W.World.told s v (g.W.World.log c.args.world.now) c.args.place.now c.args.base root files bytes c.requires.may.graph tree suits c.args.attrs c.args.stamp c.args.size none in
    let p = err_from_is_err_and c.from_residual.result c.from_residual.ensures.1 in
    stages_err Blob _ _ _ _ _ c.from_residual.result c.in_err-blob-in-None.field-0.0 (p.1 ∙ ap Err p.2) is c.in_err-blob-in-None.ensures.stages

pub returns-in-Some-clause-stages : goal.returns-in-Some-clause-stages
returns-in-Some-clause-stages g c = λ root files bytes suits.
    let v = c.args.volume.now in
    let s = c.args.store.now in
    let tree : IsTree (view_on v bytes) = view_kept v.fixed (tree_on v bytes) (c.items_keep_bounds.ensures.tree v bytes c.requires.may.kept) in
    let some : kept_file s.nodes c.args.base c.args.stamp ≡ Some c.in-Some.node = ap (λ (n : Nodes). kept_file n c.args.base c.args.stamp) (sym c.graph.ensures) ∙ sym c.in-Some.ensures in
    let is = kept_blocks g.W.World.told s v (g.W.World.log c.args.world.now) c.args.place.now c.args.base root files bytes c.requires.may.graph tree suits c.args.attrs c.args.stamp c.args.size c.in-Some.node some in
    rw is (refl, omega arith)

pub returns-in-Some-clause-planned : goal.returns-in-Some-clause-planned
returns-in-Some-clause-planned g c = λ root files bytes suits.
    let v = c.args.volume.now in
    let s = c.args.store.now in
    let tree : IsTree (view_on v bytes) = view_kept v.fixed (tree_on v bytes) (c.items_keep_bounds.ensures.tree v bytes c.requires.may.kept) in
    let some : kept_file s.nodes c.args.base c.args.stamp ≡ Some c.in-Some.node = ap (λ (n : Nodes). kept_file n c.args.base c.args.stamp) (sym c.graph.ensures) ∙ sym c.in-Some.ensures in
    kept_plan g.W.World.told s v (g.W.World.log c.args.world.now) c.args.place.now c.args.base root files bytes c.requires.may.graph tree suits (store_bytes (g.W.World.log c.args.world.now)) c.args.attrs c.args.stamp c.args.size c.in-Some.node (c.requires.file bytes) some

pub returns-in_ok-blob-in-None-clause-stages : goal.returns-in_ok-blob-in-None-clause-stages
returns-in_ok-blob-in-None-clause-stages g c = λ root files bytes suits.
    let v = c.args.volume.now in
    let s = c.args.store.now in
    let tree : IsTree (view_on v bytes) = view_kept v.fixed (tree_on v bytes) (c.items_keep_bounds.ensures.tree v bytes c.requires.may.kept) in
    let none : kept_file s.nodes c.args.base c.args.stamp ≡ None = ap (λ (n : Nodes). kept_file n c.args.base c.args.stamp) (sym c.graph.ensures) ∙ sym c.in-None.ensures in
    let is = new_blocks g.W.World.told s v (g.W.World.log c.args.world.now) c.args.place.now c.args.base root files bytes c.requires.may.graph tree suits c.args.attrs c.args.stamp c.args.size none in
    rw is c.in_ok-blob-in-None.ensures.stages

pub returns-in_ok-blob-in-None-clause-planned : goal.returns-in_ok-blob-in-None-clause-planned
returns-in_ok-blob-in-None-clause-planned g c = λ root files bytes suits.
    let v = c.args.volume.now in
    let s = c.args.store.now in
    let tree : IsTree (view_on v bytes) = view_kept v.fixed (tree_on v bytes) (c.items_keep_bounds.ensures.tree v bytes c.requires.may.kept) in
    let none : kept_file s.nodes c.args.base c.args.stamp ≡ None = ap (λ (n : Nodes). kept_file n c.args.base c.args.stamp) (sym c.graph.ensures) ∙ sym c.in-None.ensures in
    let e = c.in_ok-blob-in-None.ensures in
    new_plan g.W.World.told s v (g.W.World.log c.args.world.now) c.args.place.now c.args.base root files bytes c.requires.may.graph tree suits (store_bytes (g.W.World.log c.stage_file.new.world)) c.args.attrs c.args.stamp c.args.size c.in_ok-blob-in-None.blob (c.requires.file bytes) none
    e.length (file_small c.args.volume.now c.args.place.now c.args.attrs c.args.stamp c.args.size c.items_keep_bounds.ensures.bounds c.requires.may.kept c.requires.file) e.many e.holds
