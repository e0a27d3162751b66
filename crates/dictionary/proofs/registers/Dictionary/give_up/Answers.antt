use Rattle.std.proofs.Common.{refl, arith}
use Rattle.dictionary.specs.Lent.{dict_of}
use Rattle.dictionary.proofs.Beginning.{given_up_lem, kept_below}
use Rattle.dictionary.proofs.registers.Dictionary.give_up.Goals as goal

pub returns : goal.returns
returns c = λ image l.
    let b = kept_below c.args.self.now.ends.dp c.args.self.now.names.opened (omega arith) in
    given_up_lem (dict_of c.args.self.now image) _ image c.args.self.now.ends.dp c.kept_end-self.result l (omega arith) (omega (arith, c.kept_end-self.ensures)) (omega (arith, c.kept_end-self.ensures)) refl c.kept_end-self.ensures refl
