use Rattle.std.proofs.Common.{◌≡◌, ◌≤◌, ◌+◌, ◌∙◌, ℕ, List, refl, sym, ap, subst, arith}
use Rattle.tm_blockmap.specs.Counts.{times}
use Rattle.tm_store_records.specs.Held.{Held, IsWhole}
use Rattle.tm_store_records.proofs.Retagging.{whole_again, settled_same, room_same, staged_once}
use Rattle.tm_store.specs.contracts.store.Store.{the_view}
use Rattle.tm_store.proofs.Unstaging.{left_of, taken_out}
use Rattle.tm_store.proofs.store.Store.unstage.Goals as goal

pub unstage-requires : goal.unstage-requires
unstage-requires c =
    let h : Held = the_view c.self.inside in
    let whole : IsWhole h = subst IsWhole (sym c.self.view_is) c.requires.whole in
    let within = subst (λ (q : Held). (b : ℕ) → times b c.args.blob.blocks ≤ times b q.staged) (sym c.self.view_is) c.requires.staged in
    record { staged = λ b. omega (arith, within b, whole.blobs b) }

pub returns-clause-staged : goal.returns-clause-staged
returns-clause-staged c = λ b.
    let h : Held = the_view c.self.inside in
    let whole : IsWhole h = subst IsWhole (sym c.self.view_is) c.requires.whole in
    let within = subst (λ (q : Held). (b : ℕ) → times b c.args.blob.blocks ≤ times b q.staged) (sym c.self.view_is) c.requires.staged in
    let left : c.take_out.new.list.items ≡ left_of c.args.blob.blocks h.staged = c.take_out.ensures ∙ ap (λ (bs : List ℕ). left_of bs h.staged) c.as_slice.ensures in
    ap (λ (bs : List ℕ). times b bs + times b c.args.blob.blocks) left ∙ taken_out c.args.blob.blocks h.staged within (staged_once h whole) b ∙ ap (λ (q : Held). times b q.staged) c.self.view_is

pub returns-clause-whole : goal.returns-clause-whole
returns-clause-whole c =
    let a = c.self.inside in
    let h : Held = the_view a in
    let k : Held = record { image = c.unstage.new.self; nodes = a.graph; machine = a.machine; snapshots = a.snapshots; running = a.running; stored = a.stored; number = a.number; staged = c.take_out.new.list.items } in
    let whole : IsWhole h = subst IsWhole (sym c.self.view_is) c.requires.whole in
    let within = subst (λ (q : Held). (b : ℕ) → times b c.args.blob.blocks ≤ times b q.staged) (sym c.self.view_is) c.requires.staged in
    let left : c.take_out.new.list.items ≡ left_of c.args.blob.blocks h.staged = c.take_out.ensures ∙ ap (λ (bs : List ℕ). left_of bs h.staged) c.as_slice.ensures in
    let out = taken_out c.args.blob.blocks h.staged within (staged_once h whole) in
    let same = c.unstage.ensures.same in
    whole_again h k whole whole.fits (ap (λ r. r.tag) same.root ∙ whole.tag) whole.runs same.side same.records c.total.ensures.sound
    (settled_same a.image c.unstage.new.self same whole.settled) (room_same a.image c.unstage.new.self same (omega (arith, c.unstage.ensures.free)) whole.space)
    refl refl refl refl (λ b. omega (arith, ap (λ (bs : List ℕ). times b bs) left, out b, whole.blobs b, c.unstage.ensures.staged b))
