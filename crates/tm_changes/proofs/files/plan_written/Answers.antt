use Rattle.std.proofs.Common.{sym, subst}
use Rattle.tm_tree.specs.declared.change.Change.{Change}
use Rattle.tm_tree.specs.declared.change.Change.TheVariants as change
use Rattle.tm_changes.specs.Fitting.{staged_len}
use Rattle.tm_volume.specs.Seen.{volume_on}
use Rattle.tm_changes.specs.Writes.{PlansData}
use Rattle.tm_changes.proofs.Changed.{append_is, fill_is, plans_change, write_is}
use Rattle.tm_changes.proofs.files.plan_written.Goals as goal

pub returns-in-Write : goal.returns-in-Write
returns-in-Write c = λ bytes.
    let m = c.args.volume.now in
    let p = c.in-Write.path in
    let text = c.in-Write.bytes in
    subst (λ (w : Change). PlansData m w c.args.moment (staged_len (volume_on m bytes).contents w) c.plan_file.result) (sym c.in-Write.is)
    (plans_change m (change.Write p text) p _ c.args.moment (write_is m p text c.args.moment _ c.count.ensures.is) c.plan_file.result c.plan_file.ensures.plans c.plan_file.ensures.small bytes)

pub returns-in_ok-length_at-in-Append : goal.returns-in_ok-length_at-in-Append
returns-in_ok-length_at-in-Append c = λ bytes.
    let m = c.args.volume.now in
    let p = c.in-Append.path in
    let text = c.in-Append.bytes in
    let old = c.in_ok-length_at-in-Append in
    let r = c.plan_file-in-Append in
    subst (λ (w : Change). PlansData m w c.args.moment (staged_len (volume_on m bytes).contents w) r.result) (sym c.in-Append.is)
    (plans_change m (change.Append p text) p _ c.args.moment
    (append_is m p text c.args.moment old.field-0 _ _ old.ensures.value old.ensures.small c.count-in-Append.ensures.is c.count-in-Append.ensures.small c.saturating_add-size.ensures) r.result r.ensures.plans r.ensures.small bytes)

pub returns-in-Fill : goal.returns-in-Fill
returns-in-Fill c = λ bytes.
    let m = c.args.volume.now in
    let p = c.in-Fill.path in
    subst (λ (w : Change). PlansData m w c.args.moment (staged_len (volume_on m bytes).contents w) c.plan_file-in-Fill.result) (sym c.in-Fill.is)
    (plans_change m (change.Fill p c.in-Fill.length c.in-Fill.seed) p _ c.args.moment (fill_is m p c.in-Fill.length c.in-Fill.seed c.args.moment) c.plan_file-in-Fill.result c.plan_file-in-Fill.ensures.plans
    c.plan_file-in-Fill.ensures.small bytes)
