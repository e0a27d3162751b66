-- The machine. It holds no free byte: the dictionary's bytes end at DP, data space ends at HERE, and stacks and loads are lists.
-- So DP, HERE, the depths and the number of open loads are lengths. Bytes 0 to 127 of the image hold zero.
use Rattle.std.specs.Prelude.{ℕ, ◌+◌, Bool, List, [], length, Option}
use Rattle.fault.specs.declared.Place.{Place}
use Rattle.fault.specs.Numbers.{place_of}
use Rattle.store.specs.Meaning.{Meaning}
use Rattle.dictionary.specs.declared.registers.Names.{Names}
use Rattle.dictionary.specs.declared.registers.SearchOrder.{SearchOrder}
use Rattle.dictionary.specs.Dict.{Dict}
use Rattle.definition.specs.declared.registers.Mark.{Mark}
use Rattle.definition.specs.declared.registers.Buffer.{Buffer}
use Rattle.definition.specs.declared.registers.Flow.{Flow}
use Rattle.definition.specs.declared.registers.Position.{Position}
use Rattle.definition.specs.declared.registers.LastWord.{LastWord}
use Rattle.definition.specs.declared.registers.Source.{Source}

-- at most 128 cells, 128 cells and 32 marks, the top first
pub record Stacks : Type 0 where
  pub cells : List ℕ
  pub returns : List ℕ
  pub marks : List Mark

abbrev pub no_stacks : Stacks
no_stacks = record { cells = []; returns = []; marks = [] }

-- `line` is 128 to 255, the last line given with zeros behind it; `loads` are the open loads, the innermost first
pub record Text : Type 0 where
  pub line : List ℕ
  pub source : Source
  pub loads : List Position

-- `low` is the image up to DP, with zeros below 256; `high` is the image from 32,768 up to HERE
pub record Machine : Type 0 where
  pub low : List ℕ
  pub high : List ℕ
  pub stacks : Stacks
  pub text : Text
  pub names : Names
  pub order : SearchOrder
  pub flow : Flow
  pub buffer : Buffer
  pub store : Meaning

abbrev pub dp : Machine → ℕ
dp m = length m.low

abbrev pub here : Machine → ℕ
here m = 32768 + length m.high

abbrev pub ip : Machine → ℕ
ip m = m.flow.ip

abbrev pub blk : Machine → ℕ
blk m = m.text.source.position.blk

-- >IN
abbrev pub offset : Machine → ℕ
offset m = m.text.source.position.offset

-- BLK, and the last word's place and length, as a fault and a store call are told them
abbrev pub told : Machine → Place
told m = let w = m.text.source.word in place_of (blk m) w.start w.length

-- one part replaced

abbrev made : List ℕ → List ℕ → Stacks → Text → Names → SearchOrder → Flow → Buffer → Meaning → Machine
made l h k t n o f b s = record { low = l; high = h; stacks = k; text = t; names = n; order = o; flow = f; buffer = b; store = s }

abbrev pub with_high : List ℕ → Machine → Machine
with_high x m = made m.low x m.stacks m.text m.names m.order m.flow m.buffer m.store

abbrev pub with_stacks : Stacks → Machine → Machine
with_stacks x m = made m.low m.high x m.text m.names m.order m.flow m.buffer m.store

abbrev pub with_text : Text → Machine → Machine
with_text x m = made m.low m.high m.stacks x m.names m.order m.flow m.buffer m.store

abbrev with_flow : Flow → Machine → Machine
with_flow x m = made m.low m.high m.stacks m.text m.names m.order x m.buffer m.store

-- the buffer's block and flag, and the store
abbrev pub with_blocks : Option ℕ → Bool → Meaning → Machine → Machine
with_blocks h u s m = made m.low m.high m.stacks m.text m.names m.order m.flow (record { held = h; updated = u }) s

abbrev pub with_cells : List ℕ → Machine → Machine
with_cells x m = with_stacks (record { cells = x; returns = m.stacks.returns; marks = m.stacks.marks }) m

abbrev pub with_returns : List ℕ → Machine → Machine
with_returns x m = with_stacks (record { cells = m.stacks.cells; returns = x; marks = m.stacks.marks }) m

abbrev pub with_marks : List Mark → Machine → Machine
with_marks x m = with_stacks (record { cells = m.stacks.cells; returns = m.stacks.returns; marks = x }) m

abbrev pub with_ip : ℕ → Machine → Machine
with_ip x m = with_flow (record { compiling = m.flow.compiling; ip = x }) m

abbrev pub with_compiling : Bool → Machine → Machine
with_compiling x m = with_flow (record { compiling = x; ip = ip m }) m

-- text goes on at p, with the last word w and these loads open
abbrev pub reading : Position → LastWord → List Position → Machine → Machine
reading p w ls m =
    let s : Source = record { length = m.text.source.length; position = p; word = w } in
    with_text (record { line = m.text.line; source = s; loads = ls }) m

-- text goes on at >IN, and w was the last word
abbrev pub reading_on : ℕ → LastWord → Machine → Machine
reading_on t w m = reading (record { blk = blk m; offset = t }) w m.text.loads m

-- the dictionary, and the machine with its bytes and registers replaced
abbrev pub dict_of : Machine → Dict
dict_of m = record { low = m.low; here = here m; newest = m.names.newest; voc_link = m.names.voclink; context = m.order.context; current = m.order.current; opened = m.names.opened }

abbrev with_dict : Dict → Machine → Machine
with_dict D m =
    let n : Names = record { newest = D.newest; voclink = D.voc_link; opened = D.opened } in
    let o : SearchOrder = record { context = D.context; current = D.current } in
    made D.low m.high m.stacks m.text n o m.flow m.buffer m.store

abbrev pub changed : (Dict → Dict) → Machine → Machine
changed f m = with_dict (f (dict_of m)) m
