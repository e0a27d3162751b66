use Rattle.std.proofs.lemmas.Result.{err_from_is_err_and}
use Rattle.inner_words.proofs.Seeking.{vocabulary_far, vocabulary_refused, vocabulary_done}
use Rattle.inner_words.proofs.vocabulary.vocabulary_word.Goals as goal

pub returns-in_err-ask_inside : goal.returns-in_err-ask_inside
returns-in_err-ask_inside c =
    let p = err_from_is_err_and c.from_residual.result c.from_residual.ensures.1 in
    let h = c.in_err-ask_inside.ensures in
    rw (p.1, p.2) (vocabulary_far c.args.registers.now c.args.image.now c.told-image c.args.token _ h.0 h.1)

pub returns-in_err-seek : goal.returns-in_err-seek
returns-in_err-seek c =
    let p = err_from_is_err_and c.from_residual-in_err-seek.result c.from_residual-in_err-seek.ensures.1 in
    let d = c.dictionary_of-d.ensures in
    rw (p.1, p.2) (vocabulary_refused c.args.registers.now c.dictionary_of-d.result c.args.image.now c.told-image (record { ends = d.ends; names = d.names; order = d.order }) c.args.token c.first_head.result c.first_head.ensures c.place.result c.place.ensures c.in_ok-ask_inside.ensures.0 c.seek.new.d _ c.in_err-seek.ensures)

pub returns : goal.returns
returns c =
    let d = c.dictionary_of-d.ensures in
    vocabulary_done c.args.registers.now c.dictionary_of-d.result c.args.image.now c.told-image (record { ends = d.ends; names = d.names; order = d.order }) c.args.token c.first_head.result c.first_head.ensures c.place.result c.place.ensures c.in_ok-ask_inside.ensures.0
    c.seek.new.d c.keep.new.registers c.in_ok-seek.ensures (record { shared = c.keep.ensures.shared; seat = c.keep.ensures.seat })
