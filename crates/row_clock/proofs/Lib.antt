mod Columns
mod Rows
