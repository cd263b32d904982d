use Rattle.vm_memory_device.proofs.AddressesOfText.{addresses-text, next_address}
use Rattle.vm_memory_device.proofs.CutsOfText.{text_windows-segment}
use Rattle.vm_memory_device.proofs.laws.chains.calls_move_the_next_addresses.Goals as goal

pub returns : goal.returns
returns g c = record {
  text = addresses-text;
  next = next_address;
  windows = text_windows-segment;
  written = λ xs ws bytes old new are.
      c.writes_to_the_windows_of_a_path_are_by_bytes.ensures xs ws bytes old new are.cells are.marks are.fit;
}
