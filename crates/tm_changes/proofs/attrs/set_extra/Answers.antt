use Rattle.std.proofs.Common.{◌≡◌, length, sym, ap, ◌∙◌, subst, arith}
use Rattle.std.specs.List.{All}
use Rattle.std.specs.List.Sorted.{IsStrictlySortedBy}
use Rattle.std.specs.Map.{keys_of}
use Rattle.tm_base.specs.Paths.{name_cmp}
use Rattle.tm_nodes.specs.Attrs.{IsExtra}
use Rattle.tm_tree.specs.Extras.{Values, with_extra}
use Rattle.tm_changes.proofs.Attributing.{each_with, length_with}
use Rattle.tm_changes.proofs.attrs.set_extra.Goals as goal
use Rattle.tm_nodes.proofs.Fields.{name_had}

pub returns-clause-rules : goal.returns-clause-rules
returns-clause-rules c =
    let old = c.args.attrs.extra in
    let name_is : c.in_ok-clone.field-0 ≡ c.args.name.now = c.in_ok-clone.ensures.cases in
    let value_is : c.in_ok-clone-2.field-0 ≡ c.args.value.now = c.in_ok-clone-2.ensures.cases in
    let new : c.put.new.self ≡ with_extra c.args.name.now c.args.value.now old = c.in_ok-put.ensures.ok ∙ (λ i. with_extra (name_is i) (value_is i) old) in
    record {
      mode = c.requires.attrs.mode;
      uid = c.requires.attrs.uid;
      gid = c.requires.attrs.gid;
      modified = c.requires.attrs.modified;
      few = omega (arith, ap length new, length_with old c.args.name.now c.args.value.now c.requires.attrs.rising, c.requires.few);
      each = subst (λ (es : Values). All IsExtra es) (sym new) (each_with old c.args.name.now c.args.value.now (name_had c.args.name.now c.as_bytes.ensures.name) c.requires.value c.requires.attrs.each);
      rising = subst (λ (es : Values). IsStrictlySortedBy name_cmp (keys_of es)) c.values.ensures c.len.ensures.ordered;
    }
