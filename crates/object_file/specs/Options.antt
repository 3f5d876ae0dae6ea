-- What the words of an `encode` say of a file.
use Rattle.std.specs.Prelude.{ℕ, ◌-◌, ◌==◌, if◌then◌else◌}
use Rattle.packet_file.specs.Header.{HeaderFields}
use Rattle.packet_file.specs.declared.version.Version.{Version}
use Rattle.packet_file.specs.declared.version.Version.TheVariants.{One, Two}
use Rattle.tool_base.specs.BlockCode.{seed_field}
use Rattle.object_file.specs.declared.options.EncodeOptions.{EncodeOptions}

-- the version of this number, which is 1 or 2
abbrev pub version_of : ℕ → Version
version_of number = if number == 2 then Two else One

-- the header of the file of an object of so many bytes
abbrev pub header_for : EncodeOptions → ℕ → HeaderFields
header_for o size = record {
  version = version_of o.format;
  codec = o.shape.codec;
  oti = record {
    length = size;
    symbol = o.symbol;
    n1m3 = o.shape.n1 - 3;
    group = 1;
    block = o.block;
    max_n = o.max_n;
    seed = seed_field o.shape;
  };
}
