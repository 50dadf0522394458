-- How a run goes on, call after call.
use Rattle.std.proofs.Common.{◌≡◌, ⊎_elim, ◌<◌, ◌≤◌, refl, sym, ◌∙◌, ap, subst, arith}
use Rattle.tm_world.specs.Disk.{Disk}
use Rattle.tm_world.specs.Outside.{Outside, disk, put_disk}
use Rattle.tm_world.specs.Log.{Log, now, Passes, Steps}
use Rattle.tm_world.specs.Runs.{OnSide, Runs}
use Rattle.tm_world.specs.declared.world.Side.{Side}
use Rattle.tm_world.proofs.Sides.{disk-put_disk, put_disk_twice, put_disk_same}
use Rattle.std.proofs.lemmas.Bool.{cases_lt}

pub Passes-none : (log : Log) (Q : Outside → Type 0) → Passes log log Q
Passes-none log Q = record { later = omega arith; kept = λ k le. refl; each = λ k lt le. absurd (omega arith) }

pub Passes-then : (old mid new : Log) (Q : Outside → Type 0) → Passes old mid Q → Passes mid new Q → Passes old new Q
Passes-then old mid new Q first second = record {
  later = omega (arith, first.later, second.later);
  kept = λ k le. second.kept k (omega (arith, first.later)) ∙ first.kept k le;
  each = λ k lt le. ⊎_elim
      (λ (beyond : mid.moment < k). second.each k beyond le)
      (λ (within : k ≤ mid.moment). subst Q (sym (second.kept k within)) (first.each k lt within))
      (cases_lt mid.moment k);
}

pub Passes-weaker : (old new : Log) (P Q : Outside → Type 0) → ((s : Outside) → P s → Q s) → Passes old new P → Passes old new Q
Passes-weaker old new P Q weaker passes = record { later = passes.later; kept = passes.kept; each = λ k lt le. weaker (new.past k) (passes.each k lt le) }

-- before the first call
pub Runs-none : (side : Side) (P : Disk → Type 0) (log : Log) → Runs side P log log
Runs-none side P log = record { passes = Passes-none log _; ends = sym (put_disk_same side (now log)) }

-- after one call more, which leaves this disk
pub Runs-steps : (side : Side) (P : Disk → Type 0) (old mid new : Log) (d : Disk) → Runs side P old mid → Steps mid new (put_disk side d (now mid)) → P d → Runs side P old new
Runs-steps side P old mid new d runs steps has =
    let from_old : put_disk side d (now mid) ≡ put_disk side d (now old) = ap (put_disk side d) runs.ends ∙ put_disk_twice side _ d (now old) in
    let ends : now new ≡ put_disk side d (now old) = steps.ends ∙ from_old in
    let is : disk side (now new) ≡ d = ap (disk side) ends ∙ disk-put_disk side d (now old) in
    record {
      passes = Passes-then old mid new _ runs.passes
          (Passes-weaker mid new _ _ (λ s e. record { disk_then = d; has = has; rest = e ∙ from_old }) steps.passes);
      ends = subst (λ e. now new ≡ put_disk side e (now old)) (sym is) ends;
    }

pub disk_after : (side : Side) (mid new : Log) (d : Disk) → Steps mid new (put_disk side d (now mid)) → disk side (now new) ≡ d
disk_after side mid new d steps = ap (disk side) steps.ends ∙ disk-put_disk side d (now mid)

-- after one call more, which changes nothing
pub Steps-as_put : (side : Side) (mid new : Log) → Steps mid new (now mid) → Steps mid new (put_disk side (disk side (now mid)) (now mid))
Steps-as_put side mid new steps = subst (λ s. Steps mid new s) (sym (put_disk_same side (now mid))) steps

pub Runs-stays : (side : Side) (P : Disk → Type 0) (old mid new : Log) → Runs side P old mid → Steps mid new (now mid) → P (disk side (now mid)) → Runs side P old new
Runs-stays side P old mid new runs steps has = Runs-steps side P old mid new (disk side (now mid)) runs (Steps-as_put side mid new steps) has

OnSide-from : (side : Side) (P : Disk → Type 0) (old mid s : Outside) → mid ≡ put_disk side (disk side mid) old → OnSide side P mid s → OnSide side P old s
OnSide-from side P old mid s is on = record {
  disk_then = on.disk_then;
  has = on.has;
  rest = on.rest ∙ ap (put_disk side on.disk_then) is ∙ put_disk_twice side _ on.disk_then old;
}

-- one run after another
pub Runs-then : (side : Side) (P : Disk → Type 0) (old mid new : Log) → Runs side P old mid → Runs side P mid new → Runs side P old new
Runs-then side P old mid new first second = record {
  passes = Passes-then old mid new _ first.passes (Passes-weaker mid new _ _ (λ s on. OnSide-from side P (now old) (now mid) s first.ends on) second.passes);
  ends = second.ends ∙ ap (put_disk side (disk side (now new))) first.ends ∙ put_disk_twice side _ (disk side (now new)) (now old);
}

pub Runs-weaker : (side : Side) (P Q : Disk → Type 0) (old new : Log) → ((d : Disk) → P d → Q d) → Runs side P old new → Runs side Q old new
Runs-weaker side P Q old new weaker runs = record {
  passes = Passes-weaker old new _ _ (λ s on. record { disk_then = on.disk_then; has = weaker on.disk_then on.has; rest = on.rest }) runs.passes;
  ends = runs.ends;
}

-- two calls that change nothing
pub Steps-none : (log : Log) → Steps log log (now log)
Steps-none log = record { passes = Passes-none log _; ends = refl }

pub Steps-then : (old mid new : Log) → Steps old mid (now old) → Steps mid new (now mid) → Steps old new (now old)
Steps-then old mid new first second = record {
  passes = Passes-then old mid new _ first.passes (Passes-weaker mid new _ _ (λ s e. e ∙ first.ends) second.passes);
  ends = second.ends ∙ first.ends;
}

-- the end is such a moment too
pub Passes-now : (old new : Log) (Q : Outside → Type 0) → Passes old new Q → Q (now old) → Q (now new)
Passes-now old new Q passes at_start = ⊎_elim
    (λ (beyond : old.moment < new.moment). passes.each new.moment beyond (omega arith))
    (λ (within : new.moment ≤ old.moment). let same : new.moment ≡ old.moment = omega (arith, passes.later) in
    subst Q (sym (passes.kept new.moment within ∙ ap old.past same)) at_start)
    (cases_lt old.moment new.moment)
