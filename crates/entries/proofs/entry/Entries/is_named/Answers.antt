use Rattle.std.proofs.Common.{◌≡◌, ◌+◌, get_or, sym, ap, ◌∙◌, arith}
use Rattle.entries.specs.Entries.{first_at, spelled, bytes_are}
use Rattle.entries.proofs.Names.{length-spelled, bytes_more, bytes_not, bytes_all, named_other, named_bytes}
use Rattle.entries.proofs.Reading.{seen_at}
use Rattle.entries.proofs.entry.Entries.is_named.Goals as goal

pub name_length-requires : goal.name_length-requires
unfolding first_at
name_length-requires c = (omega arith, omega arith)

pub returns-then-from-name : goal.returns-then-from-name
returns-then-from-name c =
    let l = length-spelled c.args.name.now in
    sym (named_other c.args.self.now c.args.entry (spelled c.args.name.now) (λ e. omega arith))

pub loop-i-init : goal.loop-i-init
loop-i-init c =
    let l = length-spelled c.args.name.now in
    let z : c.args.entry + 3 ≡ c.args.entry + 3 + 0 = omega arith in
    named_bytes c.args.self.now c.args.entry (spelled c.args.name.now) (omega arith)
    ∙ ap (λ a. bytes_are c.args.self.now a (spelled c.args.name.now)) z

pub bounds-self-inside-start : goal.bounds-self-inside-start
unfolding first_at
bounds-self-inside-start c =
    let s = seen_at c.self.inside.dp c.self.inside.image.now c.args.self.now (c.args.entry + 3 + c.loop-i.i) c.self.view_is (omega arith) (omega arith) in
    omega (arith, c.from-start.ensures)

pub returns-then-self-start : goal.returns-then-self-start
unfolding first_at
returns-then-self-start c =
    let l = length-spelled c.args.name.now in
    let s = seen_at c.self.inside.dp c.self.inside.image.now c.args.self.now (c.args.entry + 3 + c.loop-i.i) c.self.view_is (omega arith) (omega arith) in
    let q = ap (λ k. get_or c.self.inside.image.now (k + 3 + c.loop-i.i) 0) c.from-start.ensures in
    let n = bytes_not c.args.self.now (c.args.entry + 3) (spelled c.args.name.now) c.loop-i.i (omega arith) (λ e. omega (arith, q, s.2, c.held_byte.ensures)) in
    sym (c.loop-i.invariant ∙ n)

pub loop-i-preserved : goal.loop-i-preserved
unfolding first_at
loop-i-preserved c =
    let l = length-spelled c.args.name.now in
    let s = seen_at c.self.inside.dp c.self.inside.image.now c.args.self.now (c.args.entry + 3 + c.loop-i.i) c.self.view_is (omega arith) (omega arith) in
    let q = ap (λ k. get_or c.self.inside.image.now (k + 3 + c.loop-i.i) 0) c.from-start.ensures in
    c.loop-i.invariant ∙ bytes_more c.args.self.now (c.args.entry + 3) (spelled c.args.name.now) c.loop-i.i (omega arith) (omega (arith, q, s.2, c.held_byte.ensures))

pub returns : goal.returns
returns c =
    let l = length-spelled c.args.name.now in
    sym (c.loop-i.invariant ∙ bytes_all c.args.self.now (c.args.entry + 3 + c.loop-i.i) (spelled c.args.name.now) c.loop-i.i (omega arith))
