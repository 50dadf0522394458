use Rattle.std.proofs.Common.{rules, arith, ◌≡◌, ◌+◌, ◌-◌, ◌*◌, ◌∙◌, ◌++◌, ◌∷◌, [], length, get_or, drop, sym, ap, refl, subst, length-append}
use Rattle.std.proofs.lemmas.List.{length-set}
use Rattle.std.proofs.lemmas.Bool.{false≢true}
use Rattle.tm_blockmap.specs.Counts.{times}
use Rattle.tm_pages.specs.declared.page.Page.{Page}
use Rattle.tm_pages.specs.Paged.{lengths, blocks_of}
use Rattle.tm_pages.specs.Directory.{IsDirectory, BreaksAt, directory_text}
use Rattle.tm_pages.proofs.Reading.{none_read, directory_none, directory_end, KeepsPages, one_more, more_used, kept, directory_more, last_length, same_entry}
use Rattle.tm_pages.proofs.read.read_directory.Goals as goal

pub loop-k-init : goal.loop-k-init
loop-k-init c =
    let none : c.new-pages.result.items ≡ [] = c.new-pages.ensures.items in
    record {
      good = subst (IsDirectory c.args.used.now) (sym none) (none_read c.args.used.now c.requires.marks);
      starts = ap (λ t. t ++ c.args.directory.now) (sym directory_none) ∙ ap (λ ps. directory_text ps ++ c.args.directory.now) (sym none);
      many = ap length none;
      before = sym (ap (λ ps. get_or (lengths ps) 0 0) none);
      used = λ b. sym (ap (λ ps. get_or c.args.used.now b 0 + times b (blocks_of ps)) none ∙ omega arith);
      size = refl;
    }

pub loop-k-preserved : goal.loop-k-preserved
loop-k-preserved c =
    let page : Page = c.entry_at-page.result in
    let inv = c.loop-k.invariant in
    let good = c.if-not-keeps_rules.ensures.good.0 refl in
    let keeps : KeepsPages c.loop-k.used c.loop-k.before page = record { some = good.0; most = good.1; pair = good.2; within = good.3; free = good.4 } in
    let made : c.push.new.self.items ≡ c.loop-k.pages.items ++ page ∷ [] = search rules in
    let all : IsDirectory c.args.used.now (c.loop-k.pages.items ++ page ∷ []) = one_more c.args.used.now c.loop-k.used c.loop-k.pages.items c.loop-k.k c.loop-k.before page inv.good inv.many inv.before inv.used inv.size keeps in
    let claimed = c.if-not-keeps_rules.ensures.claimed in
    record {
      good = subst (IsDirectory c.args.used.now) (sym made) all;
      starts = subst (λ ps. c.args.directory.now ≡ directory_text ps ++ drop (6 * (c.loop-k.k + 1)) c.args.directory.now) (sym made)
          (directory_more c.args.directory.now c.loop-k.pages.items page c.loop-k.k inv.starts c.entry_at-page.ensures.stands);
      many = omega (arith, ap length made, length-append c.loop-k.pages.items (page ∷ []));
      before = last_length c.loop-k.pages.items page c.loop-k.k inv.many ∙ ap (λ ps. get_or (lengths ps) (c.loop-k.k + 1 - 1) 0) (sym made);
      used = λ b. more_used c.args.used.now c.loop-k.used c.loop-k.pages.items c.loop-k.k c.loop-k.before page inv.good inv.many inv.before inv.used inv.size keeps c.keeps_rules.new.used claimed b
          ∙ ap (λ ps. get_or c.args.used.now b 0 + times b (blocks_of ps)) (sym made);
      size = ap length claimed ∙ length-set c.loop-k.used page.block 1 ∙ inv.size;
    }

pub returns-then-not-keeps_rules-clause-bad : goal.returns-then-not-keeps_rules-clause-bad
returns-then-not-keeps_rules-clause-bad c offset is =
    let same : 6 * c.loop-k.k ≡ offset = cc in
    let inv = c.loop-k.invariant in
    subst (BreaksAt c.args.used.now c.args.directory.now) same (record {
      way = c.loop-k.pages.items;
      good = inv.good;
      starts = inv.starts;
      reaches = ap (λ n. 6 * n) (sym inv.many);
      goes_on = omega arith;
      none = λ p stands all.
          let keeps : KeepsPages c.loop-k.used c.loop-k.before p = kept c.args.used.now c.loop-k.used c.loop-k.pages.items c.loop-k.k c.loop-k.before p inv.good inv.many inv.before inv.used inv.size all in
          let found : KeepsPages c.loop-k.used c.loop-k.before c.entry_at-page.result =
          same_entry c.loop-k.used c.loop-k.before p c.entry_at-page.result (6 * c.loop-k.k) c.args.directory.now (omega (arith, inv.size, c.requires.small)) c.entry_at-page.ensures.small.0 c.entry_at-page.ensures.small.1 stands c.entry_at-page.ensures.stands keeps in
          false≢true (c.if-not-keeps_rules.ensures.good.1 (found.some, found.most, found.pair, found.within, found.free));
    })

pub returns-clause-text : goal.returns-clause-text
returns-clause-text c = directory_end c.args.directory.now c.loop-k.pages.items c.loop-k.k c.requires.whole (omega (arith, c.loop-k-test.false)) c.loop-k.invariant.starts
