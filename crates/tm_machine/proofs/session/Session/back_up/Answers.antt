use Rattle.std.proofs.Common.{◌≡◌, ℕ, Option, Some, None, Err, sym, ◌∙◌, ap, subst}
use Rattle.tm_base.specs.declared.refused.LineFault.TheVariants.{Refused as RefusedFor}
use Rattle.tm_base.specs.declared.refused.Refused.TheVariants.{NoStore, NoVolume}
use Rattle.tm_store_records.specs.Held.{store_stored_on}
use Rattle.tm_tree.specs.Refusing.{first_refused}
use Rattle.tm_volume.specs.Seen.{stored_on}
use Rattle.tm_world.specs.Log.{now}
use Rattle.tm_world.specs.Outside.{disk}
use Rattle.tm_world.specs.declared.world.Side.TheVariants.{Volume as VolumeSide, Store as StoreSide}
use Rattle.tm_machine.specs.Allowed.{Did, MayBackUp}
use Rattle.tm_machine.specs.Backups.{DoesBackup}
use Rattle.tm_machine.specs.Steps.{backup_tests}
use Rattle.tm_machine.specs.Session.{Seen, IfReplied, IsIdle, IsOpen, Standing, state_on}
use Rattle.tm_machine.proofs.DoesBackup.{does_backup, no_store, no_volume, open_after, refused_start, stands_after}
use Rattle.tm_machine.proofs.Exits.{after_err}
use Rattle.tm_machine.proofs.Resting.{seen}
use Rattle.tm_machine.proofs.session.Session.back_up.Goals as goal

pub returns-in_err-date-clause-does : goal.returns-in_err-date-clause-does
returns-in_err-date-clause-does g c told =
    let s = c.self.inside in
    let start = g.W.World.log c.args.world.now in
    let n = s.volume_blocks in let k = s.store_blocks in
    let v = c.in-Some.volume in let h = c.in-Some-store.store in
    let was : seen n k (Some v) (Some h) s.moment ≡ c.args.self.now = (λ i. seen n k (sym c.in-Some.is i) (sym c.in-Some-store.is i) s.moment) ∙ c.self.view_is in
    let why = c.in_err-date.field-0.0 in
    after_err (Did (MayBackUp (state_on c.args.self.now (now start))) c.args.self.now (seen n k (Some v) (Some h) s.moment) start start) (RefusedFor why) c.from_residual.result c.from_residual.ensures.1
    (subst (λ (x : Seen). Did (MayBackUp (state_on x (now start))) x (seen n k (Some v) (Some h) s.moment) start start (Err (RefusedFor why))) was
    (refused_start n k v h s.moment start why (c.in_err-date.ensures.starts (disk StoreSide (now start)).bytes) (subst (λ (x : Seen). Standing x (now start)) (sym was) (c.requires.standing told))))

pub returns-clause-does : goal.returns-clause-does
returns-clause-does g c told =
    let s = c.self.inside in
    let start = g.W.World.log c.args.world.now in
    let end = g.W.World.log c.run_backup.new.world in
    let n = s.volume_blocks in let k = s.store_blocks in
    let v = c.in-Some.volume in let h = c.in-Some-store.store in
    let started = c.in_ok-date.ensures.starts (disk StoreSide (now start)).bytes in
    let was : seen n k (Some v) (Some h) (Some c.in_ok-date.date) ≡ c.args.self.now = (λ i. seen n k (sym c.in-Some.is i) (sym c.in-Some-store.is i) (sym started.1 i)) ∙ c.self.view_is in
    let after = ap (λ (x : Option ℕ). seen n k (Some c.run_backup.new.volume) (Some c.run_backup.new.store) x) (sym started.1) in
    let apart = (c.requires.standing told).apart in
    let stands = (subst (λ (x : Seen). Standing x (now start)) (sym was) (c.requires.standing told)).volume_side in
    let opened = subst (λ (x : Seen). IsOpen x (g.W.World.blocks c.args.world.now)) (sym was) c.requires.open in
    let z = store_stored_on h (disk StoreSide (now start)).bytes in
    let whole = stored_on v (disk VolumeSide (now start)).bytes in
    subst (λ (x : Seen). Did (MayBackUp (state_on x (now start))) x (seen n k (Some c.run_backup.new.volume) (Some c.run_backup.new.store) s.moment) start end c.run_backup.result) was
    (subst (λ (x : Seen). Did (MayBackUp (state_on (seen n k (Some v) (Some h) (Some c.in_ok-date.date)) (now start))) (seen n k (Some v) (Some h) (Some c.in_ok-date.date)) x start end c.run_backup.result) after
    (does_backup n k v c.run_backup.new.volume h c.run_backup.new.store c.in_ok-date.date start end apart c.run_backup.ensures.volume (c.run_backup.ensures.alone told) c.run_backup.result
    (sym (ap (λ (m : Option ℕ). first_refused (backup_tests z.store m)) started.1) ∙ started.0) stands
    (c.standing_volume_is_left.ensures v n (disk VolumeSide (now start)) opened.sound opened.ready stands)
    (c.run_backup.ensures.stands told)
    (subst (λ (b : ℕ). DoesBackup b z whole c.in_ok-date.date (store_stored_on c.run_backup.new.store (disk StoreSide (now end)).bytes) start end c.run_backup.result) opened.store_count (c.run_backup.ensures.does told))))

pub returns-clause-standing : goal.returns-clause-standing
returns-clause-standing g c told =
    let s = c.self.inside in
    let start = g.W.World.log c.args.world.now in
    let end = g.W.World.log c.run_backup.new.world in
    let n = s.volume_blocks in let k = s.store_blocks in
    let v = c.in-Some.volume in let h = c.in-Some-store.store in
    let started = c.in_ok-date.ensures.starts (disk StoreSide (now start)).bytes in
    let was : seen n k (Some v) (Some h) (Some c.in_ok-date.date) ≡ c.args.self.now = (λ i. seen n k (sym c.in-Some.is i) (sym c.in-Some-store.is i) (sym started.1 i)) ∙ c.self.view_is in
    let after = ap (λ (x : Option ℕ). seen n k (Some c.run_backup.new.volume) (Some c.run_backup.new.store) x) (sym started.1) in
    let apart = (c.requires.standing told).apart in
    let stands = (subst (λ (x : Seen). Standing x (now start)) (sym was) (c.requires.standing told)).volume_side in
    subst (λ (x : Seen). IfReplied c.run_backup.result (Standing x (now end))) after
    (stands_after n k v c.run_backup.new.volume h c.run_backup.new.store c.in_ok-date.date start end apart c.run_backup.ensures.volume (c.run_backup.ensures.alone told) c.run_backup.result stands (c.run_backup.ensures.stands told))

pub returns-clause-open : goal.returns-clause-open
returns-clause-open g c =
    let s = c.self.inside in
    let start = g.W.World.log c.args.world.now in
    let n = s.volume_blocks in let k = s.store_blocks in
    let v = c.in-Some.volume in let h = c.in-Some-store.store in
    let started = c.in_ok-date.ensures.starts (disk StoreSide (now start)).bytes in
    let was : seen n k (Some v) (Some h) (Some c.in_ok-date.date) ≡ c.args.self.now = (λ i. seen n k (sym c.in-Some.is i) (sym c.in-Some-store.is i) (sym started.1 i)) ∙ c.self.view_is in
    let after = ap (λ (x : Option ℕ). seen n k (Some c.run_backup.new.volume) (Some c.run_backup.new.store) x) (sym started.1) in
    let opened = subst (λ (x : Seen). IsOpen x (g.W.World.blocks c.args.world.now)) (sym was) c.requires.open in
    subst (λ (x : Seen). IfReplied c.run_backup.result (IsOpen x (g.W.World.blocks c.run_backup.new.world))) after
    (open_after n k v c.run_backup.new.volume h c.run_backup.new.store c.in_ok-date.date c.run_backup.ensures.volume c.run_backup.result (g.W.World.blocks c.args.world.now) (g.W.World.blocks c.run_backup.new.world) opened c.run_backup.ensures.blocks
    (subst (λ (b : ℕ). IfReplied c.run_backup.result (IsIdle c.run_backup.new.store b)) opened.store_count c.run_backup.ensures.idle))

pub returns-in_default-clause-does : goal.returns-in_default-clause-does
returns-in_default-clause-does g c told =
    let s = c.self.inside in
    let start = g.W.World.log c.args.world.now in
    let n = s.volume_blocks in let k = s.store_blocks in
    let none : seen n k None s.store s.moment ≡ seen n k s.volume s.store s.moment = (λ i. seen n k (sym c.in_default.is i) s.store s.moment) in
    let was : seen n k None s.store s.moment ≡ c.args.self.now = none ∙ c.self.view_is in
    subst (λ (x : Seen). Did (MayBackUp (state_on x (now start))) x (seen n k s.volume s.store s.moment) start start (Err (RefusedFor NoVolume))) was
    (subst (λ (x : Seen). Did (MayBackUp (state_on (seen n k None s.store s.moment) (now start))) (seen n k None s.store s.moment) x start start (Err (RefusedFor NoVolume))) none
    (no_volume n k s.store s.moment start (subst (λ (x : Seen). Standing x (now start)) (sym was) (c.requires.standing told))))

pub returns-in_default-store-clause-does : goal.returns-in_default-store-clause-does
returns-in_default-store-clause-does g c told =
    let s = c.self.inside in
    let start = g.W.World.log c.args.world.now in
    let n = s.volume_blocks in let k = s.store_blocks in
    let v = c.in-Some.volume in
    let none : seen n k (Some v) None s.moment ≡ seen n k (Some v) s.store s.moment = (λ i. seen n k (Some v) (sym c.in_default-store.is i) s.moment) in
    let was : seen n k (Some v) None s.moment ≡ c.args.self.now = none ∙ (λ i. seen n k (sym c.in-Some.is i) s.store s.moment) ∙ c.self.view_is in
    subst (λ (x : Seen). Did (MayBackUp (state_on x (now start))) x (seen n k (Some v) s.store s.moment) start start (Err (RefusedFor NoStore))) was
    (subst (λ (x : Seen). Did (MayBackUp (state_on (seen n k (Some v) None s.moment) (now start))) (seen n k (Some v) None s.moment) x start start (Err (RefusedFor NoStore))) none
    (no_store n k v s.moment start (subst (λ (x : Seen). Standing x (now start)) (sym was) (c.requires.standing told))))
