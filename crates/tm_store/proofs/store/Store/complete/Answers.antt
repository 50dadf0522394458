use Rattle.std.proofs.Common.{◌≡◌, ◌<◌, Some, None, Err, length, refl, sym, ap, ◌∙◌, subst, arith}
use Rattle.tm_world.specs.Outside.{disk}
use Rattle.tm_base.specs.declared.refused.Refused.TheVariants.{Full}
use Rattle.tm_world.specs.Log.{now}
use Rattle.tm_world.specs.Runs.{Runs}
use Rattle.tm_world.specs.declared.world.Side.TheVariants.{Store}
use Rattle.tm_world.proofs.Going.{Runs-none}
use Rattle.tm_graph.specs.Nodes.{greatest, root_links}
use Rattle.tm_graph.specs.Growing.{grown}
use Rattle.tm_store_records.specs.declared.snapshot.Snapshot.{Snapshot}
use Rattle.tm_store_records.specs.States.{LeavesStore}
use Rattle.tm_store_records.specs.Held.{Held, store_on, store_stored_on}
use Rattle.tm_store_records.specs.Built.{store_completed, snapshot_built}
use Rattle.tm_snapshot.specs.Puts.{all_puts}
use Rattle.tm_snapshot.specs.Completing.{after_complete, complete_refusal}
use Rattle.tm_snapshot.specs.Growth.{MayComplete, puts_of, records_after}
use Rattle.tm_store.specs.Joining.{joined}
use Rattle.tm_store.proofs.Completing.{all_hold, few_held, full_apart, may_complete, not_refused, put_asked, refused, run_completed, some_asked, some_holds, staged_asked, state_after, whole_after}
use Rattle.tm_store.proofs.store.Store.complete.Goals as goal

pub count_with-count-requires : goal.count_with-count-requires
count_with-count-requires g c = few_held c.args.self.now c.requires.whole

pub returns-then-count-gt-MAX_NODES-clause-any_moment : goal.returns-then-count-gt-MAX_NODES-clause-any_moment
returns-then-count-gt-MAX_NODES-clause-any_moment g c told = all_hold c.args.self.now.running _ (λ date. Runs-none Store _ (g.W.World.log c.args.world.now))

pub returns-in_err-same_name-clause-any_moment : goal.returns-in_err-same_name-clause-any_moment
returns-in_err-same_name-clause-any_moment g c told = all_hold c.args.self.now.running _ (λ date. Runs-none Store _ (g.W.World.log c.args.world.now))

pub returns-in_err-joined-clause-any_moment : goal.returns-in_err-joined-clause-any_moment
returns-in_err-joined-clause-any_moment g c told = all_hold c.args.self.now.running _ (λ date. Runs-none Store _ (g.W.World.log c.args.world.now))

pub join-requires-clause-may : goal.join-requires-clause-may
join-requires-clause-may g c =
    let h = c.args.self.now in
    let built = c.args.built in
    let date = c.in-Some.date in
    let volume = c.args.volume.now in
    let id = c.args.id in
    let mark = c.args.mark.now in
    let runs : h.running ≡ Some date = sym c.running.ensures ∙ c.in-Some.is in
    let may : MayComplete h built date volume id mark = may_complete h built date volume id mark c.requires.whole c.requires.built c.requires.mark runs c.in_ok-same_name.ensures.rules c.ranges.id.fits (omega (arith, c.if-count-gt-MAX_NODES.false, c.count_with-count.ensures)) in
    (c.built_may_grow.ensures.joins h built date volume id mark may).may

pub join-requires-clause-records : goal.join-requires-clause-records
join-requires-clause-records g c =
    let h = c.args.self.now in
    let built = c.args.built in
    let date = c.in-Some.date in
    let volume = c.args.volume.now in
    let id = c.args.id in
    let mark = c.args.mark.now in
    let runs : h.running ≡ Some date = sym c.running.ensures ∙ c.in-Some.is in
    let may : MayComplete h built date volume id mark = may_complete h built date volume id mark c.requires.whole c.requires.built c.requires.mark runs c.in_ok-same_name.ensures.rules c.ranges.id.fits (omega (arith, c.if-count-gt-MAX_NODES.false, c.count_with-count.ensures)) in
    c.built_may_grow.ensures.records h built date volume id mark may

pub commit_joined-requires-clause-put : goal.commit_joined-requires-clause-put
commit_joined-requires-clause-put g c =
    let h = c.args.self.now in
    let built = c.args.built in
    let date = c.in-Some.date in
    let volume = c.args.volume.now in
    let id = c.args.id in
    let mark = c.args.mark.now in
    let runs : h.running ≡ Some date = sym c.running.ensures ∙ c.in-Some.is in
    let may : MayComplete h built date volume id mark = may_complete h built date volume id mark c.requires.whole c.requires.built c.requires.mark runs c.in_ok-same_name.ensures.rules c.ranges.id.fits (omega (arith, c.if-count-gt-MAX_NODES.false, c.count_with-count.ensures)) in
    let s = snapshot_built h built date volume id mark in
    let k = c.join.new.self in
    let ps = c.in_ok-joined.joined.put.items in
    let own : _ ≡ s = (λ i. record { number = c.number.ensures i; date = date; volume = c.in_ok-same_name.ensures.same i; id = id; mark = mark; root = built.root }) in
    let is : k ≡ joined h built s = c.in_ok-joined.ensures.joined ∙ ap (λ (x : Snapshot). joined h built x) own in
    let puts : ps ≡ puts_of h built date volume id mark = c.in_ok-joined.ensures.put ∙ ap (λ (x : Snapshot). all_puts (grown h.nodes built.nodes built.root) (greatest h.nodes) (length built.nodes) built.blobs x) own in
    put_asked h built date volume id mark may k ps is puts (c.puts_fit.ensures h built date volume id mark may)

pub commit_joined-requires-clause-staged : goal.commit_joined-requires-clause-staged
commit_joined-requires-clause-staged g c =
    let h = c.args.self.now in
    let built = c.args.built in
    let date = c.in-Some.date in
    let volume = c.args.volume.now in
    let id = c.args.id in
    let mark = c.args.mark.now in
    let runs : h.running ≡ Some date = sym c.running.ensures ∙ c.in-Some.is in
    let may : MayComplete h built date volume id mark = may_complete h built date volume id mark c.requires.whole c.requires.built c.requires.mark runs c.in_ok-same_name.ensures.rules c.ranges.id.fits (omega (arith, c.if-count-gt-MAX_NODES.false, c.count_with-count.ensures)) in
    let s = snapshot_built h built date volume id mark in
    let k = c.join.new.self in
    let ps = c.in_ok-joined.joined.put.items in
    let own : _ ≡ s = (λ i. record { number = c.number.ensures i; date = date; volume = c.in_ok-same_name.ensures.same i; id = id; mark = mark; root = built.root }) in
    let is : k ≡ joined h built s = c.in_ok-joined.ensures.joined ∙ ap (λ (x : Snapshot). joined h built x) own in
    let puts : ps ≡ puts_of h built date volume id mark = c.in_ok-joined.ensures.put ∙ ap (λ (x : Snapshot). all_puts (grown h.nodes built.nodes built.root) (greatest h.nodes) (length built.nodes) built.blobs x) own in
    staged_asked h built date volume id mark may k ps is puts (c.puts_fit.ensures h built date volume id mark may) c.in_ok-joined.joined.left.items c.in_ok-joined.ensures.left c.requires.staged

pub commit_joined-requires-clause-some : goal.commit_joined-requires-clause-some
commit_joined-requires-clause-some g c =
    let h = c.args.self.now in
    let built = c.args.built in
    let date = c.in-Some.date in
    let volume = c.args.volume.now in
    let id = c.args.id in
    let mark = c.args.mark.now in
    let runs : h.running ≡ Some date = sym c.running.ensures ∙ c.in-Some.is in
    let may : MayComplete h built date volume id mark = may_complete h built date volume id mark c.requires.whole c.requires.built c.requires.mark runs c.in_ok-same_name.ensures.rules c.ranges.id.fits (omega (arith, c.if-count-gt-MAX_NODES.false, c.count_with-count.ensures)) in
    let s = snapshot_built h built date volume id mark in
    let k = c.join.new.self in
    let ps = c.in_ok-joined.joined.put.items in
    let own : _ ≡ s = (λ i. record { number = c.number.ensures i; date = date; volume = c.in_ok-same_name.ensures.same i; id = id; mark = mark; root = built.root }) in
    let is : k ≡ joined h built s = c.in_ok-joined.ensures.joined ∙ ap (λ (x : Snapshot). joined h built x) own in
    let puts : ps ≡ puts_of h built date volume id mark = c.in_ok-joined.ensures.put ∙ ap (λ (x : Snapshot). all_puts (grown h.nodes built.nodes built.root) (greatest h.nodes) (length built.nodes) built.blobs x) own in
    some_asked h built date volume id mark may k ps is puts (c.puts_fit.ensures h built date volume id mark may)

pub part-requires : goal.part-requires
part-requires g c =
    let h = c.args.self.now in
    let built = c.args.built in
    let date = c.in-Some.date in
    let volume = c.args.volume.now in
    let id = c.args.id in
    let mark = c.args.mark.now in
    let runs : h.running ≡ Some date = sym c.running.ensures ∙ c.in-Some.is in
    let may : MayComplete h built date volume id mark = may_complete h built date volume id mark c.requires.whole c.requires.built c.requires.mark runs c.in_ok-same_name.ensures.rules c.ranges.id.fits (omega (arith, c.if-count-gt-MAX_NODES.false, c.count_with-count.ensures)) in
    let s = snapshot_built h built date volume id mark in
    let k = c.join.new.self in
    let ps = c.in_ok-joined.joined.put.items in
    let own : _ ≡ s = (λ i. record { number = c.number.ensures i; date = date; volume = c.in_ok-same_name.ensures.same i; id = id; mark = mark; root = built.root }) in
    let is : k ≡ joined h built s = c.in_ok-joined.ensures.joined ∙ ap (λ (x : Snapshot). joined h built x) own in
    let puts : ps ≡ puts_of h built date volume id mark = c.in_ok-joined.ensures.put ∙ ap (λ (x : Snapshot). all_puts (grown h.nodes built.nodes built.root) (greatest h.nodes) (length built.nodes) built.blobs x) own in
    let as_joined : c.commit_joined.new.self ≡ joined h built s = c.in-Err-Full.ensures.err (full_apart c.in-Err-Full.field-0 _ _ c.in-Err-Full.field-0-is) ∙ is in
    let graph = (c.held_is_store.ensures.store h c.requires.whole).graph in
    subst (λ (q : Held). 0 < root_links q.nodes built.root) (sym as_joined) (c.grown_reads.ensures h.nodes built.nodes built.root graph (c.built_may_grow.ensures.joins h built date volume id mark may).may).1

pub returns-in-Ok-clause-any_moment : goal.returns-in-Ok-clause-any_moment
returns-in-Ok-clause-any_moment g c told =
    let h = c.args.self.now in
    let built = c.args.built in
    let date = c.in-Some.date in
    let volume = c.args.volume.now in
    let id = c.args.id in
    let mark = c.args.mark.now in
    let runs : h.running ≡ Some date = sym c.running.ensures ∙ c.in-Some.is in
    let may : MayComplete h built date volume id mark = may_complete h built date volume id mark c.requires.whole c.requires.built c.requires.mark runs c.in_ok-same_name.ensures.rules c.ranges.id.fits (omega (arith, c.if-count-gt-MAX_NODES.false, c.count_with-count.ensures)) in
    let s = snapshot_built h built date volume id mark in
    let k = c.join.new.self in
    let ps = c.in_ok-joined.joined.put.items in
    let own : _ ≡ s = (λ i. record { number = c.number.ensures i; date = date; volume = c.in_ok-same_name.ensures.same i; id = id; mark = mark; root = built.root }) in
    let is : k ≡ joined h built s = c.in_ok-joined.ensures.joined ∙ ap (λ (x : Snapshot). joined h built x) own in
    let puts : ps ≡ puts_of h built date volume id mark = c.in_ok-joined.ensures.put ∙ ap (λ (x : Snapshot). all_puts (grown h.nodes built.nodes built.root) (greatest h.nodes) (length built.nodes) built.blobs x) own in
    let need = c.need_is_told.ensures h built date volume id mark may in
    let grow = c.puts_grow.ensures.grow h built date volume id mark may in
    let l0 = g.W.World.log c.args.world.now in
    let l1 = g.W.World.log c.commit_joined.new.world in
    let bytes = (disk Store (now l0)).bytes in
    let none = not_refused h built date volume id mark may k ps is puts need c.in-Ok.ensures.fits in
    let stored = c.puts_grow.ensures.stored h built date volume id mark (records_after h built date volume id mark) bytes may grow in
    some_holds h.running date (λ d. Runs Store (LeavesStore (store_stored_on h bytes) (after_complete h built d volume id mark bytes)) l0 l1) runs (run_completed h built date volume id mark may k ps is puts bytes l0 l1 none stored (c.in-Ok.ensures.any_moment told))

pub returns-in-Ok-clause-state : goal.returns-in-Ok-clause-state
returns-in-Ok-clause-state g c told =
    let h = c.args.self.now in
    let built = c.args.built in
    let date = c.in-Some.date in
    let volume = c.args.volume.now in
    let id = c.args.id in
    let mark = c.args.mark.now in
    let runs : h.running ≡ Some date = sym c.running.ensures ∙ c.in-Some.is in
    let may : MayComplete h built date volume id mark = may_complete h built date volume id mark c.requires.whole c.requires.built c.requires.mark runs c.in_ok-same_name.ensures.rules c.ranges.id.fits (omega (arith, c.if-count-gt-MAX_NODES.false, c.count_with-count.ensures)) in
    let s = snapshot_built h built date volume id mark in
    let k = c.join.new.self in
    let ps = c.in_ok-joined.joined.put.items in
    let own : _ ≡ s = (λ i. record { number = c.number.ensures i; date = date; volume = c.in_ok-same_name.ensures.same i; id = id; mark = mark; root = built.root }) in
    let is : k ≡ joined h built s = c.in_ok-joined.ensures.joined ∙ ap (λ (x : Snapshot). joined h built x) own in
    let puts : ps ≡ puts_of h built date volume id mark = c.in_ok-joined.ensures.put ∙ ap (λ (x : Snapshot). all_puts (grown h.nodes built.nodes built.root) (greatest h.nodes) (length built.nodes) built.blobs x) own in
    let grow = c.puts_grow.ensures.grow h built date volume id mark may in
    let l0 = g.W.World.log c.args.world.now in
    let l1 = g.W.World.log c.commit_joined.new.world in
    let bytes = (disk Store (now l0)).bytes in
    let new = (disk Store (now l1)).bytes in
    let are = c.puts_grow.ensures.completed h built date volume id mark (records_after h built date volume id mark) bytes may grow in
    some_holds h.running date (λ d. store_on c.commit_joined.new.self new ≡ store_completed h built d volume id mark bytes) runs (state_after h built date volume id mark may k ps is puts c.commit_joined.new.self c.in-Ok.ensures.same c.in-Ok.ensures.records bytes new are (c.in-Ok.ensures.data told))

pub returns-in-Ok-clause-whole : goal.returns-in-Ok-clause-whole
returns-in-Ok-clause-whole g c =
    let h = c.args.self.now in
    let built = c.args.built in
    let date = c.in-Some.date in
    let volume = c.args.volume.now in
    let id = c.args.id in
    let mark = c.args.mark.now in
    let runs : h.running ≡ Some date = sym c.running.ensures ∙ c.in-Some.is in
    let may : MayComplete h built date volume id mark = may_complete h built date volume id mark c.requires.whole c.requires.built c.requires.mark runs c.in_ok-same_name.ensures.rules c.ranges.id.fits (omega (arith, c.if-count-gt-MAX_NODES.false, c.count_with-count.ensures)) in
    let s = snapshot_built h built date volume id mark in
    let k = c.join.new.self in
    let ps = c.in_ok-joined.joined.put.items in
    let own : _ ≡ s = (λ i. record { number = c.number.ensures i; date = date; volume = c.in_ok-same_name.ensures.same i; id = id; mark = mark; root = built.root }) in
    let is : k ≡ joined h built s = c.in_ok-joined.ensures.joined ∙ ap (λ (x : Snapshot). joined h built x) own in
    let puts : ps ≡ puts_of h built date volume id mark = c.in_ok-joined.ensures.put ∙ ap (λ (x : Snapshot). all_puts (grown h.nodes built.nodes built.root) (greatest h.nodes) (length built.nodes) built.blobs x) own in
    let grow = c.puts_grow.ensures.grow h built date volume id mark may in
    whole_after h built date volume id mark may k ps is puts c.commit_joined.new.self c.in-Ok.ensures.same c.in-Ok.ensures.records grow c.in-Ok.ensures.side c.in-Ok.ensures.sound c.in-Ok.ensures.settled c.in-Ok.ensures.space c.in-Ok.ensures.tag c.in-Ok.ensures.unstaged

pub returns-in-Ok-clause-done : goal.returns-in-Ok-clause-done
returns-in-Ok-clause-done g c =
    let h = c.args.self.now in
    let built = c.args.built in
    let date = c.in-Some.date in
    let volume = c.args.volume.now in
    let id = c.args.id in
    let mark = c.args.mark.now in
    let runs : h.running ≡ Some date = sym c.running.ensures ∙ c.in-Some.is in
    let may : MayComplete h built date volume id mark = may_complete h built date volume id mark c.requires.whole c.requires.built c.requires.mark runs c.in_ok-same_name.ensures.rules c.ranges.id.fits (omega (arith, c.if-count-gt-MAX_NODES.false, c.count_with-count.ensures)) in
    let s = snapshot_built h built date volume id mark in
    let k = c.join.new.self in
    let ps = c.in_ok-joined.joined.put.items in
    let own : _ ≡ s = (λ i. record { number = c.number.ensures i; date = date; volume = c.in_ok-same_name.ensures.same i; id = id; mark = mark; root = built.root }) in
    let is : k ≡ joined h built s = c.in_ok-joined.ensures.joined ∙ ap (λ (x : Snapshot). joined h built x) own in
    let puts : ps ≡ puts_of h built date volume id mark = c.in_ok-joined.ensures.put ∙ ap (λ (x : Snapshot). all_puts (grown h.nodes built.nodes built.root) (greatest h.nodes) (length built.nodes) built.blobs x) own in
    let need = c.need_is_told.ensures h built date volume id mark may in
    some_holds h.running date (λ d. complete_refusal h built d volume id mark ≡ None) runs (not_refused h built date volume id mark may k ps is puts need c.in-Ok.ensures.fits)

pub returns-in-Err-Fault-clause-any_moment : goal.returns-in-Err-Fault-clause-any_moment
returns-in-Err-Fault-clause-any_moment g c told =
    let h = c.args.self.now in
    let built = c.args.built in
    let date = c.in-Some.date in
    let volume = c.args.volume.now in
    let id = c.args.id in
    let mark = c.args.mark.now in
    let runs : h.running ≡ Some date = sym c.running.ensures ∙ c.in-Some.is in
    let may : MayComplete h built date volume id mark = may_complete h built date volume id mark c.requires.whole c.requires.built c.requires.mark runs c.in_ok-same_name.ensures.rules c.ranges.id.fits (omega (arith, c.if-count-gt-MAX_NODES.false, c.count_with-count.ensures)) in
    let s = snapshot_built h built date volume id mark in
    let k = c.join.new.self in
    let ps = c.in_ok-joined.joined.put.items in
    let own : _ ≡ s = (λ i. record { number = c.number.ensures i; date = date; volume = c.in_ok-same_name.ensures.same i; id = id; mark = mark; root = built.root }) in
    let is : k ≡ joined h built s = c.in_ok-joined.ensures.joined ∙ ap (λ (x : Snapshot). joined h built x) own in
    let puts : ps ≡ puts_of h built date volume id mark = c.in_ok-joined.ensures.put ∙ ap (λ (x : Snapshot). all_puts (grown h.nodes built.nodes built.root) (greatest h.nodes) (length built.nodes) built.blobs x) own in
    let need = c.need_is_told.ensures h built date volume id mark may in
    let grow = c.puts_grow.ensures.grow h built date volume id mark may in
    let l0 = g.W.World.log c.args.world.now in
    let l1 = g.W.World.log c.commit_joined.new.world in
    let bytes = (disk Store (now l0)).bytes in
    let none = not_refused h built date volume id mark may k ps is puts need (c.in-Err-Fault.ensures.tried (ap (λ e. Err e) c.in-Err-Fault.field-0-is)) in
    let stored = c.puts_grow.ensures.stored h built date volume id mark (records_after h built date volume id mark) bytes may grow in
    some_holds h.running date (λ d. Runs Store (LeavesStore (store_stored_on h bytes) (after_complete h built d volume id mark bytes)) l0 l1) runs (run_completed h built date volume id mark may k ps is puts bytes l0 l1 none stored (c.in-Err-Fault.ensures.any_moment told))

pub returns-in_ok-part-in-Err-Full-clause-refused : goal.returns-in_ok-part-in-Err-Full-clause-refused
returns-in_ok-part-in-Err-Full-clause-refused g c =
    let h = c.args.self.now in
    let built = c.args.built in
    let date = c.in-Some.date in
    let volume = c.args.volume.now in
    let id = c.args.id in
    let mark = c.args.mark.now in
    let runs : h.running ≡ Some date = sym c.running.ensures ∙ c.in-Some.is in
    let may : MayComplete h built date volume id mark = may_complete h built date volume id mark c.requires.whole c.requires.built c.requires.mark runs c.in_ok-same_name.ensures.rules c.ranges.id.fits (omega (arith, c.if-count-gt-MAX_NODES.false, c.count_with-count.ensures)) in
    let s = snapshot_built h built date volume id mark in
    let k = c.join.new.self in
    let ps = c.in_ok-joined.joined.put.items in
    let own : _ ≡ s = (λ i. record { number = c.number.ensures i; date = date; volume = c.in_ok-same_name.ensures.same i; id = id; mark = mark; root = built.root }) in
    let is : k ≡ joined h built s = c.in_ok-joined.ensures.joined ∙ ap (λ (x : Snapshot). joined h built x) own in
    let puts : ps ≡ puts_of h built date volume id mark = c.in_ok-joined.ensures.put ∙ ap (λ (x : Snapshot). all_puts (grown h.nodes built.nodes built.root) (greatest h.nodes) (length built.nodes) built.blobs x) own in
    let need = c.need_is_told.ensures h built date volume id mark may in
    some_holds h.running date (λ d. complete_refusal h built d volume id mark ≡ Some (Full c.in-Err-Full.need c.in-Err-Full.free)) runs (refused h built date volume id mark may k ps is puts need c.in-Err-Full.need c.in-Err-Full.free (c.in-Err-Full.ensures.full _ _ (ap (λ e. Err e) c.in-Err-Full.field-0-is)))

pub returns-in_ok-part-in-Err-Full-clause-err : goal.returns-in_ok-part-in-Err-Full-clause-err
returns-in_ok-part-in-Err-Full-clause-err g c =
    let h = c.args.self.now in
    let built = c.args.built in
    let date = c.in-Some.date in
    let volume = c.args.volume.now in
    let id = c.args.id in
    let mark = c.args.mark.now in
    let runs : h.running ≡ Some date = sym c.running.ensures ∙ c.in-Some.is in
    let may : MayComplete h built date volume id mark = may_complete h built date volume id mark c.requires.whole c.requires.built c.requires.mark runs c.in_ok-same_name.ensures.rules c.ranges.id.fits (omega (arith, c.if-count-gt-MAX_NODES.false, c.count_with-count.ensures)) in
    let s = snapshot_built h built date volume id mark in
    let k = c.join.new.self in
    let ps = c.in_ok-joined.joined.put.items in
    let own : _ ≡ s = (λ i. record { number = c.number.ensures i; date = date; volume = c.in_ok-same_name.ensures.same i; id = id; mark = mark; root = built.root }) in
    let is : k ≡ joined h built s = c.in_ok-joined.ensures.joined ∙ ap (λ (x : Snapshot). joined h built x) own in
    let puts : ps ≡ puts_of h built date volume id mark = c.in_ok-joined.ensures.put ∙ ap (λ (x : Snapshot). all_puts (grown h.nodes built.nodes built.root) (greatest h.nodes) (length built.nodes) built.blobs x) own in
    let as_joined : c.commit_joined.new.self ≡ joined h built s = c.in-Err-Full.ensures.err (full_apart c.in-Err-Full.field-0 _ _ c.in-Err-Full.field-0-is) ∙ is in
    let graph = (c.held_is_store.ensures.store h c.requires.whole).graph in
    c.in_ok-part-in-Err-Full.ensures h built s (c.built_may_grow.ensures.joins h built date volume id mark may) graph refl as_joined
