-- A region beside the model's entry: what code answers for an entry, and what an entry a region stands for.
use Rattle.model.specs.Layout.{Entry}
use Rattle.layout.specs.declared.Region.{Region}

-- an entry as code hands it out, without the reserved field
abbrev pub region_of : Entry → Region
region_of e =
    record { kind = e.kind; flags = e.flags; word_offset = e.offset; word_length = e.words; covers = e.covers }

-- a region that is handed in, as an entry: nothing that is asked of one depends on the reserved field
abbrev pub as_entry : Region → Entry
as_entry r =
    record { kind = r.kind; flags = r.flags; offset = r.word_offset; words = r.word_length; covers = r.covers; reserved = 0 }
