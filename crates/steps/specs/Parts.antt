-- Registers with the dictionary's part replaced.
use Rattle.dictionary.specs.declared.registers.Ends.{Ends}
use Rattle.dictionary.specs.declared.registers.Names.{Names}
use Rattle.dictionary.specs.declared.registers.SearchOrder.{SearchOrder}
use Rattle.definition.specs.declared.registers.Shared.{Shared}
use Rattle.definition.specs.declared.registers.Seat.{Seat}

abbrev pub share_of : Ends → Names → Shared → Shared
share_of e n s = record { ends = e; names = n; buffer = s.buffer }

abbrev pub seat_with : SearchOrder → Seat → Seat
seat_with o t = record { order = o; flow = t.flow; depths = t.depths; source = t.source; loads = t.loads }
