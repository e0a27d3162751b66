-- Boot's dictionary, by computation.
use Rattle.stacks.specs.Stack.{stack_of}
use Rattle.std.proofs.Common.{[], refl}
use Rattle.definition.specs.Computes.{machine_computes}
use Rattle.kernel_table.specs.Table.{KernelStands, RegistersBoot, boot_shared, boot_seat, entries_in, entries_of, found_in, places_from}

pub kernel_stands : KernelStands
unfolding machine_computes entries_in entries_of found_in places_from
kernel_stands = record { count = refl; entries = refl; threads = refl; end = refl; tokens = refl }

pub registers_boot : RegistersBoot
unfolding machine_computes stack_of
registers_boot l m low high line = λ i. record {
  low = low i;
  high = high i;
  stacks = record { cells = []; returns = []; marks = [] };
  text = record { line = line i; source = boot_seat.source; loads = [] };
  names = boot_shared.names;
  order = boot_seat.order;
  flow = boot_seat.flow;
  buffer = boot_shared.buffer;
  store = m;
}
