use Rattle.std.proofs.Common.{◌≡◌, ◌+◌, ◌-◌, ℕ, List, [], length, Err, sym, ap, ◌∙◌, subst, refl, arith}
use Rattle.std.proofs.lemmas.Result.{err_from_is_err_and}
use Rattle.tm_tree.specs.declared.node.NodeId.{NodeId}
use Rattle.tm_tree.specs.Trees.{folder_at}
use Rattle.tm_tree.proofs.ViewsKept.{view_kept}
use Rattle.tm_tree.specs.declared.rows.Mark.{Mark}
use Rattle.tm_store_records.specs.Built.{IsBuilt, store_completed}
use Rattle.tm_store_records.specs.Held.{Held, files_of, store_on}
use Rattle.tm_backup.proofs.Copying.{copied}
use Rattle.tm_volume.specs.Seen.{tree_on}
use Rattle.tm_backup.specs.Steps.{store_bytes, volume_bytes}
use Rattle.tm_backup.specs.Taking.{base_root, view_on}
use Rattle.tm_backup.proofs.Rooted.{suits_root, staging_root, walked_counted}
use Rattle.tm_graph.specs.declared.built.Built.{Built}
use Rattle.tm_graph.specs.Nodes.{greatest}
use Rattle.tm_copy.specs.Building.{prev}
use Rattle.tm_copy.specs.Making.{begun}
use Rattle.tm_backup.specs.Growing.{blocks_in}
use Rattle.tm_backup.specs.Taking.{backup_of}
use Rattle.tm_backup.proofs.Few.{few_new, taken_few}
use Rattle.tm_backup.proofs.Making.{IsMadeOf, made_of}
use Rattle.tm_backup.proofs.Ending.{is_built}
use Rattle.tm_backup.proofs.Staging.{stages_err, stages_ok}
use Rattle.tm_backup.proofs.finish.copy_volume.Goals as goal
use Rattle.tm_backup.proofs.finish.copy_volume.Given.{Over}

pub walk_folder-requires-clause-shown : goal.walk_folder-requires-clause-shown
walk_folder-requires-clause-shown g c bytes =
    let v = c.args.volume.now in
    ap (folder_at (view_on v bytes)) c.root-path.ensures ∙ (view_kept v.fixed (tree_on v bytes) (c.items_keep_bounds.ensures.tree v bytes c.requires.may.kept)).rooted

pub returns-in_err-root-clause-stages : goal.returns-in_err-root-clause-stages
returns-in_err-root-clause-stages g c = λ told.
    let v = c.args.volume.now in
    let s = c.args.store.now in
    let l = g.W.World.log c.args.world.now in
    let p = c.root-path.result in
    let suits = suits_root g.W.World.told s l p c.base_of-base.result v.head.id c.info.result.id c.requires.may.whole c.root-path.ensures c.info.ensures.head.0 c.base_of-base.ensures in
    let q = err_from_is_err_and c.from_residual.result c.from_residual.ensures.1 in
    stages_err NodeId _ _ _ _ _ c.from_residual.result c.in_err-root.field-0.0 (q.1 ∙ ap Err q.2)
    (staging_root s l v.head.id (view_on v (volume_bytes l)) p c.root-path.ensures)
    (c.in_err-root.ensures.stages (base_root s v.head.id) (files_of s.image.records (store_bytes l)) (volume_bytes l) suits)

-- what was made of the view, where the base's files have these bytes
made : (g : Over) (c : goal.After-drop-path-inside-2 g) (files : ℕ → List ℕ)
    → IsMadeOf g.W.World.told (backup_of c.args.store.now files (base_root c.args.store.now c.args.volume.now.head.id) (view_on c.args.volume.now (volume_bytes (g.W.World.log c.args.world.now))))
    (store_bytes (g.W.World.log c.walk_folder.new.world)) c.walk_folder.new.progress.builder c.in_ok-root.root c.walk_folder.new.store.staged
made g c files =
    let v = c.args.volume.now in
    let s = c.args.store.now in
    let l = g.W.World.log c.args.world.now in
    let bytes = volume_bytes l in
    made_of g.W.World.told s c.walk_folder.new.store v l (g.W.World.log c.walk_folder.new.world) v.head.id c.walk_folder.new.progress.builder c.in_ok-root.root files
    c.requires.may.whole c.requires.may.graph (view_kept v.fixed (tree_on v bytes) (c.items_keep_bounds.ensures.tree v bytes c.requires.may.kept)) c.requires.unstaged
    c.root-path.result c.base_of-base.result c.new-builder.result c.root-path.ensures
    (c.base_of-base.ensures ∙ ap (base_root s) c.info.ensures.head.0)
    (c.new-builder.ensures ∙ (λ i. begun (c.number.ensures i) (greatest (c.graph.ensures i) + 1)))
    c.in_ok-root.ensures.grows

-- what the builder hands out
finished : (g : Over) (c : goal.After-drop-path-inside-2 g) → ◌≡◌ {A = Built} c.finish.result (record { root = c.in_ok-root.root; nodes = c.walk_folder.new.progress.builder.nodes; blobs = c.walk_folder.new.progress.builder.blobs })
finished g c = λ i. record { root = c.finish.ensures.root i; nodes = c.finish.ensures.nodes i; blobs = c.finish.ensures.blobs i }

pub returns-clause-built : goal.returns-clause-built
returns-clause-built g c =
    let v = c.args.volume.now in
    let s = c.args.store.now in
    let new = c.walk_folder.new.store in
    let bytes = volume_bytes (g.W.World.log c.args.world.now) in
    let m = c.walk_folder.new.progress.builder in
    let is = is_built g.W.World.told s v bytes (λ n. []) (store_bytes (g.W.World.log c.walk_folder.new.world)) v.head.id c.in_ok-root.root m new.staged c.requires.may.kept
    c.items_keep_bounds.ensures.bounds c.items_keep_bounds.ensures.few (made g c (λ n. [])) c.finish.ensures.making c.finish.ensures.fits new.image new.staged in
    subst (λ (h : Held). IsBuilt h c.finish.result) (sym c.in_ok-root.ensures.went.same)
    (subst (λ (built : Built). IsBuilt (record s { image = new.image; staged = new.staged }) built) (sym (finished g c)) is)

pub returns-clause-blobs : goal.returns-clause-blobs
returns-clause-blobs g c = λ k. omega (arith, (made g c (λ n. [])).paid k, ap (λ (built : Built). blocks_in built.blobs k) (finished g c))

pub returns-clause-stages : goal.returns-clause-stages
returns-clause-stages g c = λ told.
    let v = c.args.volume.now in
    let s = c.args.store.now in
    let l = g.W.World.log c.args.world.now in
    let p = c.root-path.result in
    let suits = suits_root g.W.World.told s l p c.base_of-base.result v.head.id c.info.result.id c.requires.may.whole c.root-path.ensures c.info.ensures.head.0 c.base_of-base.ensures in
    stages_ok {A = NodeId} _ _ _ _ _ c.in_ok-root.root
    (staging_root s l v.head.id (view_on v (volume_bytes l)) p c.root-path.ensures)
    (c.in_ok-root.ensures.stages (base_root s v.head.id) (files_of s.image.records (store_bytes l)) (volume_bytes l) suits)

pub returns-clause-copied : goal.returns-clause-copied
returns-clause-copied g c = λ told fit date.
    let v = c.args.volume.now in
    let s = c.args.store.now in
    let new = c.walk_folder.new.store in
    let start = store_bytes (g.W.World.log c.args.world.now) in
    let bytes = volume_bytes (g.W.World.log c.args.world.now) in
    let stored = store_bytes (g.W.World.log c.walk_folder.new.world) in
    let m = c.walk_folder.new.progress.builder in
    let after : Held = record s { image = new.image; staged = new.staged } in
    let mark : Mark = record { generation = v.tag.generation; cursor = v.tag.next - 1 } in
    let went = c.in_ok-root.ensures.went in
    let tree = view_kept v.fixed (tree_on v bytes) (c.items_keep_bounds.ensures.tree v bytes c.requires.may.kept) in
    let state : store_on after stored ≡ store_on s start = sym (ap (λ (h : Held). store_on h stored) went.same) ∙ went.state told in
    ap (λ (h : Held). store_completed h c.finish.result date v.head.name v.head.id mark stored) went.same
    ∙ ap (λ (built : Built). store_completed after built date v.head.name v.head.id mark stored) (finished g c)
    ∙ copied g.W.World.told told s v bytes start stored new.image new.staged c.in_ok-root.root m new.staged (made g c (files_of new.image.records stored)) c.finish.ensures.making c.requires.may.graph tree state fit date

pub returns-clause-walked : goal.returns-clause-walked
returns-clause-walked g c bytes =
    let v = c.args.volume.now in
    walked_counted v bytes c.root-path.result 0 c.walk_folder.new.progress.walked (c.items_keep_bounds.ensures.few v bytes c.requires.may.kept) c.root-path.ensures refl (c.in_ok-root.ensures.walked bytes)

pub returns-clause-few : goal.returns-clause-few
returns-clause-few g c =
    let v = c.args.volume.now in
    let s = c.args.store.now in
    let bytes = volume_bytes (g.W.World.log c.args.world.now) in
    let m = c.walk_folder.new.progress.builder in
    let made = made g c (λ n. []) in
    let b = backup_of s (λ n. []) (base_root s v.head.id) (view_on v bytes) in
    omega (arith, ap (λ (built : Built). length built.nodes) (finished g c), few_new b m.nodes made.other c.in_ok-root.root made.are made.up, taken_few (prev b) v bytes (c.items_keep_bounds.ensures.few v bytes c.requires.may.kept))
