-- What the forms in memory hold, and which of their calls fail.
use Rattle.std.specs.Prelude.{ℕ, List}
use Rattle.io_ports.specs.Files.{File}
use Rattle.io_ports.specs.declared.calm.sink.CalmSink.{CalmSink}
use Rattle.io_ports.specs.declared.calm.source.CalmSource.{CalmSource}
use Rattle.io_ports.specs.declared.calm.target.CalmTarget.{CalmTarget}
use Rattle.io_ports.specs.declared.memory.sink.MemorySink.{MemorySink}
use Rattle.io_ports.specs.declared.memory.source.MemorySource.{MemorySource}
use Rattle.io_ports.specs.declared.memory.tally.Tally.{Tally}
use Rattle.io_ports.specs.declared.memory.target.MemoryTarget.{MemoryTarget}

-- the files by path in byte order
abbrev pub memory_source_files : MemorySource → List File
memory_source_files s = s.files.items

-- the settings files by name
abbrev pub memory_source_stored : MemorySource → List File
memory_source_stored s = s.stored.items

abbrev pub calm_source_stored : CalmSource → List File
calm_source_stored s = s.stored.items

-- the files of a target by path in byte order
abbrev pub memory_target_files : MemoryTarget → List File
memory_target_files t = t.files.items

abbrev pub calm_source_files : CalmSource → List File
calm_source_files s = s.files.items

abbrev pub calm_target_files : CalmTarget → List File
calm_target_files t = t.files.items

-- the bytes that were put
abbrev pub memory_sink_bytes : MemorySink → List ℕ
memory_sink_bytes s = s.bytes.items

abbrev pub calm_sink_bytes : CalmSink → List ℕ
calm_sink_bytes s = s.bytes.items

-- which calls are to fail, and how many calls and faults there were
abbrev pub memory_source_tally : MemorySource → Tally
memory_source_tally s = s.tally

abbrev pub memory_target_tally : MemoryTarget → Tally
memory_target_tally t = t.tally

abbrev pub memory_sink_tally : MemorySink → Tally
memory_sink_tally s = s.tally

-- how often a call failed
abbrev pub memory_source_faults : MemorySource → ℕ
memory_source_faults s = s.tally.faults

abbrev pub memory_target_faults : MemoryTarget → ℕ
memory_target_faults t = t.tally.faults

abbrev pub memory_sink_faults : MemorySink → ℕ
memory_sink_faults s = s.tally.faults
