-- The product's version as one number. Assumes nothing: these are definitions.
use Rattle.std.specs.Prelude.{ℕ, ◌+◌, ◌*◌}

-- so that a later version has a greater number, while minor and patch stay below 100
abbrev pub version_number : (major minor patch : ℕ) → ℕ
version_number major minor patch = major * 10000 + minor * 100 + patch

-- 1.6.0, as on the first line of share/rezkundo/version
abbrev pub product_version : ℕ
product_version = version_number 1 6 0
