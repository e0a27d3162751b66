-- To compute with the dictionary, a proof unfolds this.
use Rattle.image.specs.Cells.{cell_at, cell, set_cell}
use Rattle.entries.specs.Entries.{entry_bytes, first_at}
use Rattle.entries.specs.Search.{walk, search_in}
use Rattle.dictionary.specs.Search.{searched}
use Rattle.dictionary.specs.Trim.{chain, left, link_of, fall, trim_voc, trim_vocs, youngest_in, youngest, forgotten, chain_in_order, drops, fell, falls_at, threads, in_chain, chained, can_forget}

unfoldable pub dictionary_computes : Unit {0}
unfolding cell_at cell set_cell entry_bytes first_at walk search_in searched chain left link_of fall trim_voc trim_vocs youngest_in youngest forgotten chain_in_order drops fell falls_at threads in_chain chained can_forget
dictionary_computes = tt
