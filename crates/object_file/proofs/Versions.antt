-- The header of the version that is asked for.
use Rattle.std.proofs.Common.{◌≡◌, ℕ, ◌≤◌, ◌-◌, ◌==◌, Bool, true, false, if◌then◌else◌, sym, arith}
use Rattle.std.proofs.Common.{refl, eqb-true}
use Rattle.std.proofs.lemmas.Bool.{eqb-false}
use Rattle.packet_file.specs.Header.{HeaderFields, version_number}
use Rattle.packet_file.specs.declared.version.Version.{Version}
use Rattle.packet_file.specs.declared.version.Version.TheVariants.{One, Two}
use Rattle.object_file.specs.Options.{version_of}
use Rattle.object_file.specs.declared.options.EncodeOptions.{EncodeOptions}

-- the version of a number has that number
pub version_is : (number : ℕ) → 1 ≤ number → number ≤ 2
    → version_number (version_of number) ≡ number
version_is number some most = by_test (number == 2) refl
  where
    by_test : (two : Bool) → (number == 2) ≡ two
        → version_number (if two then Two else One) ≡ number
    by_test true is = sym (eqb-true number 2 is)
    by_test false is = omega (arith, eqb-false number 2 is, some, most)

-- the header of these options, by the version and the field of the seed
abbrev pub header_by : EncodeOptions → ℕ → Version → ℕ → HeaderFields
header_by o size version seed = record {
  version = version;
  codec = o.shape.codec;
  oti = record {
    length = size;
    symbol = o.symbol;
    n1m3 = o.shape.n1 - 3;
    group = 1;
    block = o.block;
    max_n = o.max_n;
    seed = seed;
  };
}
