use Rattle.std.proofs.Common.{refl}
use Rattle.space_words.proofs.Doing.{fetch_acts, store_acts, fetch_byte_acts, store_byte_acts, decimal_acts, hex_acts}
use Rattle.space_words.proofs.Ends.{base_done}
use Rattle.space_words.proofs.space.memory_word.Goals as goal

pub returns-in-Fetch : goal.returns-in-Fetch
returns-in-Fetch c = record { did = rw c.in-Fetch.is (c.fetch.ensures 34 fetch_acts); below = refl }

pub returns-in-Store : goal.returns-in-Store
returns-in-Store c = record { did = rw c.in-Store.is (c.store.ensures.did 35 store_acts); below = c.store.ensures.below }

pub returns-in-PlusStore : goal.returns-in-PlusStore
returns-in-PlusStore c = record { did = rw c.in-PlusStore.is c.add_to.ensures.did; below = c.add_to.ensures.below }

pub returns-in-CFetch : goal.returns-in-CFetch
returns-in-CFetch c = record { did = rw c.in-CFetch.is (c.fetch-in-CFetch.ensures 37 fetch_byte_acts); below = refl }

pub returns-in-CStore : goal.returns-in-CStore
returns-in-CStore c = record { did = rw c.in-CStore.is (c.store-in-CStore.ensures.did 38 store_byte_acts); below = c.store-in-CStore.ensures.below }

pub returns-in-CMove : goal.returns-in-CMove
returns-in-CMove c = record { did = rw c.in-CMove.is c.copy.ensures.did; below = c.copy.ensures.below }

pub returns-in-Fill : goal.returns-in-Fill
returns-in-Fill c = record { did = rw c.in-Fill.is c.fill.ensures.did; below = c.fill.ensures.below }

pub returns-in-Decimal : goal.returns-in-Decimal
returns-in-Decimal c =
    let d = base_done c.args.registers.now c.args.image.now c.args.cells.now c.told-image c.told-cells 42 10 decimal_acts c.set_base.new.image c.set_base.ensures in
    record { did = rw c.in-Decimal.is d.0; below = d.1 }

pub returns-in-Hex : goal.returns-in-Hex
returns-in-Hex c =
    let d = base_done c.args.registers.now c.args.image.now c.args.cells.now c.told-image c.told-cells 43 16 hex_acts c.set_base-in-Hex.new.image c.set_base-in-Hex.ensures in
    record { did = rw c.in-Hex.is d.0; below = d.1 }
