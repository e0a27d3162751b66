use Rattle.std.proofs.Common.{Err, length, refl, sym, ap, ◌∙◌, arith}
use Rattle.std.proofs.lemmas.Result.{err_from_is_err_and}
use Rattle.entries.specs.Search.{hit}
use Rattle.entries.specs.Threads.{answered}
use Rattle.entries.proofs.Walks.{in_parts, at_linked, at_end_lem, at_broken, at_hit, link_some, link_none, link_broken, finds_youngest}
use Rattle.entries.proofs.entry.Entries.search_thread.Goals as goal

pub returns-in_err-e : goal.returns-in_err-e
returns-in_err-e c =
    let b = link_broken c.args.told c.args.self.now (length c.args.self.now) c.links.before c.links.link c.in_err-e.field-0.0 c.in_err-e.ensures.answer in
    let f = at_broken _ _ _ _ _ _ c.links.invariant.1 b.1 b.2 in
    let p = err_from_is_err_and c.from_residual.result c.from_residual.ensures.1 in
    let e = p.1 ∙ ap Err p.2 ∙ b.0 ∙ sym (ap (answered c.args.told) f) in
    record { found = e; youngest = finds_youngest _ _ (length c.args.self.now) _ c.args.head _ refl (omega arith) e }

pub returns-then-is_named : goal.returns-then-is_named
returns-then-is_named c =
    let w = c.in_ok-e.was in
    let s = link_some c.args.told c.args.self.now (length c.args.self.now) c.links.before c.links.link c.in-Some.e (cc) in
    let f = at_hit _ _ _ _ _ _ c.links.invariant.1 s.1 s.2 (cc) in
    let e = ap (answered c.args.told) (f ∙ ap hit s.0) in
    record { found = sym e; youngest = finds_youngest _ _ (length c.args.self.now) _ c.args.head _ refl (omega arith) (sym e) }

pub links-preserved : goal.links-preserved
links-preserved c =
    let w = c.in_ok-e.was in
    let s = link_some c.args.told c.args.self.now (length c.args.self.now) c.links.before c.links.link c.in-Some.e (cc) in
    let p = in_parts c.args.self.now (length c.args.self.now) c.links.before c.links.link s.2 in
    (omega arith, at_linked _ _ _ _ c.links.link _ c.in-Some.e c.cell-link.result s.0 c.cell-link.ensures c.links.invariant.1 s.1 s.2 (cc))

pub returns : goal.returns
returns c =
    let w = c.in_ok-e.was in
    let f = at_end_lem _ _ _ _ _ _ c.links.invariant.1 (link_none c.args.told c.args.self.now (length c.args.self.now) c.links.before c.links.link (cc)) in
    let e = ap (answered c.args.told) f in
    record { found = sym e; youngest = finds_youngest _ _ (length c.args.self.now) _ c.args.head _ refl (omega arith) (sym e) }
