use Rattle.std.proofs.Common.{◌≡◌, ◌≢◌, ◌-◌, ◌≤◌, ◌++◌, ◌∙◌, ℕ, List, [], replicate, min, sym, ap, subst, arith}
use Rattle.tm_blockmap.specs.Takes.{Takes}
use Rattle.tm_image.proofs.First.{kept_each, first_some}
use Rattle.tm_image.proofs.Keeping.{metas_of}
use Rattle.tm_image.proofs.Loading.{kept_marks}
use Rattle.tm_image.proofs.Preparing.{some_text}
use Rattle.tm_image.proofs.blank.make_draft.Goals as goal

pub encode-requires-clause-metas : goal.encode-requires-clause-metas
encode-requires-clause-metas c = metas_of c.in_ok-records.records.entries (kept_each c.in_ok-records.records.entries c.in_ok-records.ensures.each)

pub returns-clause-is : goal.returns-clause-is
returns-clause-is c =
    let records : c.in_ok-records.records.entries ≢ [] = λ e. first_some c.args.put.items c.requires.some (sym c.in_ok-records.ensures.records ∙ e) in
    let some = some_text _ c.in_ok-text.text.items records c.in_ok-text.ensures in
    let least : 3 ≤ c.args.blocks = omega (arith, some, c.len.ensures, c.in_ok-text.text.ok, c.if-need-free.false, c.saturating_sub-free.ensures) in
    record {
      small = c.requires.small;
      rising = c.in_ok-records.ensures.ordered;
      keys = c.in_ok-records.ensures.keys;
      each = c.in_ok-records.ensures.each;
      some = records;
      text_is = c.in_ok-text.ensures;
      many = omega (arith, c.in_ok-table.ensures.many, c.len.ensures, c.in_ok-text.text.ok);
      used_is = λ b. omega (arith, c.in_ok-table.ensures.marks b, kept_marks c.args.blocks c.in_ok-map.map least c.in_ok-map.ensures.size c.in_ok-map.ensures.are_marks c.in_ok-map.ensures.free b);
      size = c.take_all.ensures.size ∙ c.in_ok-map.ensures.size;
      marks = c.take_all.ensures.are_marks;
      room = omega (arith, some, c.len.ensures, c.in_ok-text.text.ok, c.in_ok-table.ensures.many, c.if-need-free.false, c.saturating_sub-free.ensures);
    }

pub returns-clause-lowest : goal.returns-clause-lowest
returns-clause-lowest c =
    let some = some_text _ c.in_ok-text.text.items (λ e. first_some c.args.put.items c.requires.some (sym c.in_ok-records.ensures.records ∙ e)) c.in_ok-text.ensures in
    let three : min 3 c.args.blocks ≡ 3 = omega (arith, some, c.len.ensures, c.in_ok-text.text.ok, c.if-need-free.false, c.saturating_sub-free.ensures) in
    let new : c.in_ok-map.map ≡ replicate 3 1 ++ replicate (c.args.blocks - 3) 0 = c.in_ok-map.ensures.kept ∙ ap (λ n. replicate n 1 ++ replicate (c.args.blocks - 3) 0) three in
    subst (λ (ms : List ℕ). Takes c.in_ok-table.table.items ms c.take_all.new.self) new c.in_ok-table.ensures.taken
