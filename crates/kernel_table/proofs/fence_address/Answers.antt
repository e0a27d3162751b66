use Rattle.kernel_table.proofs.Computed.{kernel_stands, registers_boot}
use Rattle.kernel_table.proofs.fence_address.Goals as goal

pub returns-clause-table : goal.returns-clause-table
returns-clause-table c = kernel_stands

pub returns-clause-registers : goal.returns-clause-registers
returns-clause-registers c = registers_boot
