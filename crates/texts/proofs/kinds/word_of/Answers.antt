use Rattle.std.proofs.Common.{sym, ◌∙◌}
use Rattle.std.proofs.lemmas.Result.{err_from_is_err_and}
use Rattle.texts.proofs.Naming.{name_least, name_ascii}
use Rattle.texts.proofs.Answering.{entry_in_lem, interpreting, no_name, broken_link, at_entry, a_number, not_found}
use Rattle.texts.proofs.kinds.word_of.Goals as goal

pub returns-then-not-is_name : goal.returns-then-not-is_name
returns-then-not-is_name c = record {
  kind = no_name c.args.registers.now c.args.image.now c.last_word-word.result.now c.last_word-word.ensures c.is_name.result c.refusal.result c.is_name.ensures c.if-not-is_name.true c.refusal.ensures;
  whole = interpreting;
}

pub search-requires : goal.search-requires
search-requires c =
    let h = sym c.is_name.ensures ∙ c.if-not-is_name.false in
    (name_least c.last_word-word.result.now h, name_ascii c.last_word-word.result.now h)

pub returns-in_err-found : goal.returns-in_err-found
returns-in_err-found c =
    let p = err_from_is_err_and c.from_residual.result c.from_residual.ensures.1 in
    record {
      kind = rw (p.1, p.2) (broken_link c.args.registers.now c.args.image.now c.last_word-word.result.now c.last_word-word.ensures c.is_name.result c.is_name.ensures c.if-not-is_name.false _ c.in_err-found.ensures.found);
      whole = interpreting;
    }

pub word_at-requires : goal.word_at-requires
word_at-requires c =
    let h = entry_in_lem c.args.registers.now.shared.ends.dp c.in_ok-found.found c.in-Some.entry c.in-Some.is c.in_ok-found.ensures.inside in
    (h.0, h.1)

pub returns-in-Some : goal.returns-in-Some
returns-in-Some c = record {
  kind = at_entry c.args.registers.now c.args.image.now c.last_word-word.result.now c.last_word-word.ensures c.is_name.result c.is_name.ensures c.if-not-is_name.false c.in_ok-found.found c.in-Some.entry c.word_at.result c.in-Some.is c.in_ok-found.ensures.found c.word_at.ensures;
  whole = interpreting;
}

pub returns-in-Some-read_number : goal.returns-in-Some-read_number
returns-in-Some-read_number c = record {
  kind = a_number c.args.registers.now c.args.image.now c.last_word-word.result.now c.last_word-word.ensures c.is_name.result c.is_name.ensures c.if-not-is_name.false c.in_ok-found.found c.base.result c.in-Some-read_number.n c.read_number.result c.in-None.is c.in_ok-found.ensures.found c.base.ensures c.read_number.ensures.defined c.in-Some-read_number.is;
  whole = interpreting;
}

pub returns-in-None-read_number : goal.returns-in-None-read_number
returns-in-None-read_number c = record {
  kind = not_found c.args.registers.now c.args.image.now c.last_word-word.result.now c.last_word-word.ensures c.is_name.result c.is_name.ensures c.if-not-is_name.false c.in_ok-found.found c.base.result c.read_number.result c.refusal-in-None-read_number.result c.in-None.is c.in_ok-found.ensures.found c.base.ensures c.read_number.ensures.defined c.in-None-read_number.is c.refusal-in-None-read_number.ensures;
  whole = interpreting;
}
