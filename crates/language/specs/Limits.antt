-- 01, "Each limit stands once, with the kind of thing it limits". In src/ they are constants of the kinds they limit, and its function `all` is proved to give this record.
-- Assumes nothing: these are definitions.
use Rattle.language.specs.declared.Limits.{Limits}

-- "actor 8,192 bytes; bindings 2,048; ports 16; bindings 16 in each section; memories 8; memory size 1 to 256, 256 cells in all; groups 8; rules 32; `val`s 16 in a rule;
-- type 64 words; expression 256 words; replication 64; expression width 64"; names 31 bytes, plain numbers 4,294,967,295, numbers in types 65,535, widths of ports and memories 32
abbrev pub limits : Limits
limits = record {
  actor = 8_192;
  name = 31;
  number = 4_294_967_295;
  bindings = 2_048;
  lines = 16;
  ports = 16;
  memories = 8;
  size = 256;
  cells = 256;
  groups = 8;
  rules = 32;
  vals = 16;
  width = 32;
  typeNumber = 65_535;
  typeWords = 64;
  expressionWords = 256;
  copies = 64;
  expressionWidth = 64;
}
