use Rattle.std.proofs.Common.{◌≡◌, length, sym, ap, subst, arith}
use Rattle.std.specs.List.{All}
use Rattle.std.specs.List.Sorted.{IsStrictlySortedBy}
use Rattle.std.specs.Map.{keys_of}
use Rattle.std.specs.BTreeMap.{is_at}
use Rattle.tm_base.specs.Paths.{name_cmp}
use Rattle.tm_nodes.specs.Attrs.{IsExtra}
use Rattle.tm_tree.specs.Extras.{Values, without_extra}
use Rattle.tm_changes.proofs.Attributing.{each_without, fewer_without}
use Rattle.tm_changes.proofs.attrs.remove_extra.Goals as goal

pub returns-clause-rules : goal.returns-clause-rules
returns-clause-rules c =
    let old = c.args.attrs.extra in
    let test = is_at (name_cmp c.args.name.now) in
    let new : c.remove.new.self ≡ without_extra c.args.name.now old = c.remove.ensures in
    record {
      mode = c.requires.attrs.mode;
      uid = c.requires.attrs.uid;
      gid = c.requires.attrs.gid;
      modified = c.requires.attrs.modified;
      few = omega (arith, ap length new, fewer_without test old, c.requires.attrs.few);
      each = subst (λ (es : Values). All IsExtra es) (sym new) (each_without test old c.requires.attrs.each);
      rising = subst (λ (es : Values). IsStrictlySortedBy name_cmp (keys_of es)) c.values.ensures c.len.ensures.ordered;
    }
