use Rattle.std.proofs.Common.{◌≡◌, ℕ, true, List, take, sym, ap, subst}
use Rattle.definition.specs.Text.{is_name}
use Rattle.texts.proofs.Naming.{name_least, name_most, name_ascii}
use Rattle.texts.proofs.name.Name.text.Goals as goal

pub returns : goal.returns
returns c =
    let e = ap (λ n. take n c.args.self.now.bytes) c.bytes_used.ensures in
    let P : List ℕ → Type 0 = λ bs. is_name bs ≡ true in
    let h = subst P (sym e) c.args.self.now.named in
    record { value = e; least = name_least (take c.bytes_used.result c.args.self.now.bytes) h; most = name_most (take c.bytes_used.result c.args.self.now.bytes) h; ascii = name_ascii (take c.bytes_used.result c.args.self.now.bytes) h }
