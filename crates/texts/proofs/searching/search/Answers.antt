use Rattle.texts.proofs.Answering.{searched_seen, found_inside}
use Rattle.texts.proofs.searching.search.Goals as goal

pub returns : goal.returns
returns c = record {
  found = searched_seen c.args.registers.now c.args.image.now c.told-image c.args.name.now c.answer.result c.answer.ensures;
  inside = found_inside c.args.registers.now c.args.image.now c.told-image c.args.name.now c.answer.result c.answer.ensures;
}
