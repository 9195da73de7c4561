mod Heading
mod Whole
